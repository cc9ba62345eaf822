-- What the bytes of sector 0 say, fault by fault.
use Rattle.std.proofs.Common.{◌≡◌, ◌<◌, ◌≤◌, ℕ, Bool, true, false, not, List, [], ◌∷◌, length, Option, Some, None, Result, Err, refl, sym, ap, ◌∙◌}
use Rattle.std.proofs.lemmas.Bool.{le-ltb, lt-ltb}
use Rattle.ntstatus.specs.First.{when, first_some}
use Rattle.sector.specs.declared.Extent.{Extent}
use Rattle.mbr.specs.declared.MbrFault.{MbrFault}
use Rattle.mbr.specs.declared.MbrFault.TheVariants.{ShortSector, NoSignature}
use Rattle.mbr.specs.Table.{entries_of, is_signed, partitions_of}
use Rattle.mbr.specs.Faults.{partitions_fault, said_of, told_by, unless_fault}

-- the partitions of the used entries
abbrev pub partitions_in : List ℕ → List Extent
partitions_in table = partitions_of (entries_of table)

-- what is told once it is known whether the bytes are too few, and whether they are signed
abbrev told_when : ℕ → List ℕ → Bool → Bool → Result (List Extent) MbrFault
told_when sectors table few signed = unless_fault
    (first_some (when few ShortSector ∷ when (not signed) NoSignature ∷ partitions_fault sectors (partitions_in table) ∷ []))
    (partitions_in table)

-- what partitions say
abbrev told_of : ℕ → List Extent → Result (List Extent) MbrFault
told_of sectors partitions = unless_fault (partitions_fault sectors partitions) partitions

first_alone : (fault : Option MbrFault) → first_some (fault ∷ []) ≡ fault
first_alone None = refl
first_alone (Some fault) = refl

pub too_few : (sectors : ℕ) (table : List ℕ) → length table < 512 → Err ShortSector ≡ told_by sectors table
too_few sectors table few = sym (ap (λ (b : Bool). told_when sectors table b (is_signed table)) (lt-ltb (length table) 512 few))

-- of enough bytes it is known from the signature on
enough : (sectors : ℕ) (table : List ℕ) (signed : Bool) → 512 ≤ length table → is_signed table ≡ signed
    → told_by sectors table ≡ told_when sectors table false signed
enough sectors table signed long is =
    ap (λ (b : Bool). told_when sectors table b (is_signed table)) (le-ltb (length table) 512 long) ∙ ap (told_when sectors table false) is

pub unsigned : (sectors : ℕ) (table : List ℕ) → 512 ≤ length table → is_signed table ≡ false → Err NoSignature ≡ told_by sectors table
unsigned sectors table long not_signed = sym (enough sectors table false long not_signed)

-- of signed bytes it is what the entries say
pub by_entries : (sectors : ℕ) (table : List ℕ) → 512 ≤ length table → is_signed table ≡ true
    → told_by sectors table ≡ said_of sectors (entries_of table)
by_entries sectors table long signed =
    enough sectors table true long signed
    ∙ ap (λ (f : Option MbrFault). unless_fault f (partitions_in table)) (first_alone (partitions_fault sectors (partitions_in table)))

-- which is their first fault, or else their partitions
pub exactly : (sectors : ℕ) (table : List ℕ) (partitions : List Extent) (fault : Option MbrFault) → 512 ≤ length table
    → is_signed table ≡ true → partitions ≡ partitions_in table → fault ≡ partitions_fault sectors partitions
    → unless_fault fault partitions ≡ told_by sectors table
exactly sectors table partitions fault long signed are is =
    ap (λ (f : Option MbrFault). unless_fault f partitions) is ∙ ap (told_of sectors) are ∙ sym (by_entries sectors table long signed)
