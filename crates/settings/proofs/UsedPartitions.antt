-- The partitions that a document gives.
use Rattle.std.proofs.Common.{◌≡◌, ◌≤◌, ◌∙◌, ◌==◌, suc, List, [], ◌∷◌, length, map, nat_le, Bool, cond, not, true, false, Option, None, Some, All, ap, arith, refl, subst, sym}
use Rattle.std.specs.List.{AllZip, filter}
use Rattle.std.proofs.lemmas.Bool.{leb-true, ne_eqb}
use Rattle.std.proofs.lemmas.List.Elements.{All-nil, All-cons, All-head, All-tail}
use Rattle.toml.specs.Data.{Data}
use Rattle.sector.specs.declared.Extent.{Extent}
use Rattle.mbr.specs.Table.{Entry, is_used, partitions_of}
use Rattle.settings.specs.declared.Partition.{Partition}
use Rattle.settings.specs.InRange.{IsUsed}
use Rattle.settings.specs.Medium.{entry_of, extent_of}
use Rattle.settings.specs.Settings.{ArePartitions, GivesPartition, values_of}
use Rattle.settings.proofs.Keys.{list_of_items}

used_each : (tables : List Data) (ps : List Partition) → AllZip GivesPartition tables ps → All IsUsed ps
used_each [] [] h = All-nil IsUsed
used_each [] (p ∷ ps) h = absurd h
used_each (d ∷ ds) [] h = absurd h
used_each (d ∷ ds) (p ∷ ps) h = All-cons IsUsed p ps h.0.2.used (used_each ds ps h.1)

-- each has a type
pub all_used : (found : Option Data) (ps : List Partition) → ArePartitions found ps → All IsUsed ps
all_used None ps h = subst (λ (xs : List Partition). All IsUsed xs) (sym h) (All-nil IsUsed)
all_used (Some d) ps h = used_each h.0 ps h.2

-- as many tables as partitions
as_many : (tables : List Data) (ps : List Partition) → AllZip GivesPartition tables ps → length tables ≡ length ps
as_many [] [] h = refl
as_many [] (p ∷ ps) h = absurd h
as_many (d ∷ ds) [] h = absurd h
as_many (d ∷ ds) (p ∷ ps) h = ap suc (as_many ds ps h.1)

-- there are as few as the document has
pub as_few : (found : Option Data) (ps : List Partition) → nat_le (length (values_of found)) 4 ≡ true → ArePartitions found ps → length ps ≤ 4
as_few None ps few h = omega (arith, ap length h)
as_few (Some d) ps few h =
    let values : values_of (Some d) ≡ h.0 = ap (λ (x : Data). values_of (Some x)) h.1 ∙ list_of_items h.0 in
    omega (arith, leb-true _ _ few, ap length values, as_many h.0 ps h.2)

-- so the used entries of their table are all of them
pub all_listed : (ps : List Partition) → All IsUsed ps → partitions_of (map entry_of ps) ≡ map extent_of ps
all_listed [] = λ used. refl
all_listed (p ∷ ps) = λ used.
    let kind : (p.kind == 0) ≡ false = ne_eqb p.kind 0 (λ e. absurd (omega (arith, (All-head IsUsed p ps used).0, e))) in
    let rest : List Entry = filter is_used (map entry_of ps) in
    ap (λ (unused : Bool). map (λ (entry : Entry). entry.1) (cond (not unused) (entry_of p ∷ rest) rest)) kind
    ∙ ap (λ (xs : List Extent). extent_of p ∷ xs) (all_listed ps (All-tail IsUsed p ps used))
