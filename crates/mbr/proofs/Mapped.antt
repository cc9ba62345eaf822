-- Partitions without a fault are a map of the disk.
use Rattle.std.proofs.Common.{◌≡◌, ◌≤◌, ◌+◌, ◌==◌, ◌||◌, inl, inr, ℕ, Bool, true, false, not, nat_lt, min, max, List, [], ◌∷◌, map, length, All, Option, Some, None, Ok, refl, ap, ◌∙◌, subst, arith}
use Rattle.std.specs.List.{AllPairs, list_any}
use Rattle.std.proofs.lemmas.Bool.{cases_lt, eqb-false, ltb-false}
use Rattle.std.proofs.lemmas.List.Elements.{All-nil, All-cons, All-head, All-tail}
use Rattle.std.proofs.lemmas.List.Kept.{AllPairs-cons}
use Rattle.ntstatus.specs.First.{when, first_some}
use Rattle.ntstatus.proofs.First.{none_first}
use Rattle.sector.specs.declared.Extent.{Extent}
use Rattle.machine.specs.Map.{AreApart, IsMap, IsPartition}
use Rattle.mbr.specs.declared.MbrFault.{MbrFault}
use Rattle.mbr.specs.declared.MbrFault.TheVariants.{ShortSector, NoSignature, EmptyEntry, CoversTable, PastEnd, Overlap}
use Rattle.mbr.specs.Table.{Entry, entries_of, is_signed, partitions_of}
use Rattle.mbr.specs.Faults.{any_share, extent_fault, partitions_fault, said_of, share, table_fault, told_by, unless_fault}

-- a partition without a fault of its own
is_partition : (sectors : ℕ) (extent : Extent) → extent_fault sectors extent ≡ None → IsPartition sectors extent
is_partition sectors extent is =
    let end : ℕ = extent.first + extent.count in
    let a : ((extent.count == 0) ≡ false) × _ = none_first (extent.count == 0) EmptyEntry _ is in
    let b : ((extent.first == 0) ≡ false) × _ = none_first (extent.first == 0) CoversTable _ a.1 in
    let c : (nat_lt sectors end ≡ false) × _ = none_first (nat_lt sectors end) PastEnd _ b.1 in
    let some : extent.count ≡ 0 → ⊥ = eqb-false extent.count 0 a.0 in
    let behind : extent.first ≡ 0 → ⊥ = eqb-false extent.first 0 b.0 in
    record { behind_table = omega (arith, behind); some = omega (arith, some); inside = ltb-false sectors end c.0 }

-- none of a list has a fault: the first hasn't, nor has one of the others
no_fault : (fault : Option MbrFault) (rest : List (Option MbrFault)) → first_some (fault ∷ rest) ≡ None
    → (fault ≡ None) × (first_some rest ≡ None)
no_fault None rest none = (refl, none)
no_fault (Some fault) rest none = cc (none)

each : (sectors : ℕ) (extents : List Extent) → first_some (map (extent_fault sectors) extents) ≡ None → All (IsPartition sectors) extents
each sectors [] none = All-nil (IsPartition sectors)
each sectors (extent ∷ extents) none =
    let both = no_fault (extent_fault sectors extent) (map (extent_fault sectors) extents) none in
    All-cons (IsPartition sectors) extent extents (is_partition sectors extent both.0) (each sectors extents both.1)

-- neither of two tests holds
neither : (a b : Bool) → (a || b) ≡ false → (a ≡ false) × (b ≡ false)
neither false b none = (refl, none)
neither true b none = cc (none)

-- partitions that share no sector lie apart
apart_two : (sectors : ℕ) (one other : Extent) → IsPartition sectors one → IsPartition sectors other → share one other ≡ false
    → AreApart one other
apart_two sectors one other a b none =
    let ends : min (one.first + one.count) (other.first + other.count) ≤ max one.first other.first = ltb-false _ _ none in
    elim (cases_lt other.first (one.first + one.count)) [
      | inl below ↦ inr (omega (arith, a.some, b.some))
      | inr above ↦ inl above
    ]

apart_from : (sectors : ℕ) (extent : Extent) (extents : List Extent) → IsPartition sectors extent → All (IsPartition sectors) extents
    → list_any (share extent) extents ≡ false → All (AreApart extent) extents
apart_from sectors extent [] is are none = All-nil (AreApart extent)
apart_from sectors extent (other ∷ others) is are none =
    let both = neither (share extent other) (list_any (share extent) others) none in
    All-cons (AreApart extent) other others
    (apart_two sectors extent other is (All-head (IsPartition sectors) other others are) both.0)
    (apart_from sectors extent others is (All-tail (IsPartition sectors) other others are) both.1)

apart : (sectors : ℕ) (extents : List Extent) → All (IsPartition sectors) extents → any_share extents ≡ false → AllPairs AreApart extents
apart sectors [] are none = λ i j d below within. absurd (omega (arith, within))
apart sectors (extent ∷ extents) are none =
    let both = neither (list_any (share extent) extents) (any_share extents) none in
    let one = All-head (IsPartition sectors) extent extents are in
    let others = All-tail (IsPartition sectors) extent extents are in
    AllPairs-cons AreApart extent extents (apart_from sectors extent extents one others both.0) (apart sectors extents others both.1)

-- partitions without a fault are a map
is_map : (sectors : ℕ) (extents : List Extent) → partitions_fault sectors extents ≡ None → IsMap sectors extents
is_map sectors extents none =
    let both = no_fault (first_some (map (extent_fault sectors) extents)) (when (any_share extents) Overlap ∷ []) none in
    let are = each sectors extents both.0 in
    record { each = are; apart = apart sectors extents are (none_first (any_share extents) Overlap [] both.1).0 }

-- what is told has no fault
unfaulted : (fault : Option MbrFault) (partitions extents : List Extent) → unless_fault fault partitions ≡ Ok extents
    → (fault ≡ None) × (partitions ≡ extents)
unfaulted None partitions extents told = (refl, cc (told))
unfaulted (Some fault) partitions extents told = cc (told)

-- the partitions that entries say are those of the used ones, and a map of the disk
pub said_is_map : (sectors : ℕ) (entries : List Entry) (extents : List Extent) → said_of sectors entries ≡ Ok extents
    → (partitions_of entries ≡ extents) × IsMap sectors extents
said_is_map sectors entries extents said =
    let both = unfaulted (partitions_fault sectors (partitions_of entries)) (partitions_of entries) extents said in
    (both.1, subst (IsMap sectors) both.1 (is_map sectors (partitions_of entries) both.0))

-- what a table tells is what its entries say
told_said : (sectors : ℕ) (table : List ℕ) (extents : List Extent) → told_by sectors table ≡ Ok extents
    → said_of sectors (entries_of table) ≡ Ok extents
told_said sectors table extents told =
    let partitions : List Extent = partitions_of (entries_of table) in
    let both = unfaulted (table_fault sectors table) partitions extents told in
    let long : _ × _ = none_first (nat_lt (length table) 512) ShortSector _ both.0 in
    let signed : _ × _ = none_first (not (is_signed table)) NoSignature _ long.1 in
    let none = no_fault (partitions_fault sectors partitions) [] signed.1 in
    ap (λ (fault : Option MbrFault). unless_fault fault partitions) none.0 ∙ ap Ok both.1

-- so they are a map, too
pub told_is_map : (sectors : ℕ) (table : List ℕ) (extents : List Extent) → told_by sectors table ≡ Ok extents → IsMap sectors extents
told_is_map sectors table extents told = (said_is_map sectors (entries_of table) extents (told_said sectors table extents told)).1
