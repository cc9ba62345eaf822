-- The partitions of settings, and their table.
use Rattle.std.proofs.Common.{◌≡◌, ◌∙◌, ℕ, List, [], ◌∷◌, All, Bool, true, false, Option, None, Some, Result, Ok, Err, ap, cond, filter, inl, inr, map, refl, subst, sym, not, arith, ne_eqb}
use Rattle.std.proofs.lemmas.List.Elements.{All-head, All-tail}
use Rattle.sector.specs.declared.Extent.{Extent}
use Rattle.machine.specs.Map.{IsMap}
use Rattle.mbr.specs.Faults.{partitions_fault, said_of, unless_fault}
use Rattle.mbr.specs.Table.{Entry, is_used, partitions_of}
use Rattle.mbr.specs.declared.MbrFault.{MbrFault}
use Rattle.settings.specs.declared.Config.{Config}
use Rattle.settings.specs.declared.Partition.{Partition}
use Rattle.settings.specs.InRange.{AreInRange, IsUsed}
use Rattle.settings.specs.Medium.{entries_of, entry_of, extent_of, extents_of}

-- each partition of settings is in use
used : (p : Partition) → IsUsed p → is_used (entry_of p) ≡ true
used p is = ap not (ne_eqb p.kind 0 (λ e. absurd (omega (arith, is.0, e))))

all_used : (ps : List Partition) → All IsUsed ps → partitions_of (map entry_of ps) ≡ map extent_of ps
all_used [] are = refl
all_used (p ∷ ps) are =
    ap (λ b. map (λ (entry : Entry). entry.1) (cond b (entry_of p ∷ filter is_used (map entry_of ps)) (filter is_used (map entry_of ps)))) (used p (All-head IsUsed p ps are))
    ∙ ap (λ l. extent_of p ∷ l) (all_used ps (All-tail IsUsed p ps are))

unfaulted : (fault : Option MbrFault) (given told : List Extent) → unless_fault fault given ≡ Ok told → told ≡ given
unfaulted None given told e = cc (e)
unfaulted (Some why) given told e = absurd (cc (e))

-- what is told of them is they
pub map_of : (c : Config) (told : List Extent) → AreInRange c → said_of c.sectors (entries_of c) ≡ Ok told → IsMap c.sectors told → IsMap c.sectors (extents_of c)
map_of c told are says is =
    subst (IsMap c.sectors) (unfaulted (partitions_fault c.sectors (partitions_of (entries_of c))) (partitions_of (entries_of c)) told says ∙ all_used c.partitions.items are.partitions) is
