-- What is wrong with a partition table, and what one without a fault says.
use Rattle.std.specs.Prelude.{ℕ, ◌+◌, ◌==◌, ◌||◌, Bool, false, not, nat_lt, min, max, List, [], ◌∷◌, length, map}
use Rattle.std.specs.Prelude.{Option, Some, None, Result, Ok, Err}
use Rattle.std.specs.List.{list_any}
use Rattle.ntstatus.specs.First.{when, first_some}
use Rattle.sector.specs.declared.Extent.{Extent}
use Rattle.mbr.specs.declared.MbrFault.{MbrFault}
use Rattle.mbr.specs.declared.MbrFault.TheVariants.{ShortSector, NoSignature, EmptyEntry, CoversTable, PastEnd, Overlap}
use Rattle.mbr.specs.Table.{Entry, entries_of, is_signed, partitions_of}

-- what is wrong with a partition by itself on a disk of this many sectors: the first that fits
abbrev pub extent_fault : ℕ → Extent → Option MbrFault
extent_fault sectors extent = first_some (
    when (extent.count == 0) EmptyEntry
    ∷ when (extent.first == 0) CoversTable
    ∷ when (nat_lt sectors (extent.first + extent.count)) PastEnd
    ∷ [])

-- the two share a sector: the later first sector comes before the earlier end
abbrev pub share : Extent → Extent → Bool
share one other = nat_lt (max one.first other.first) (min (one.first + one.count) (other.first + other.count))

-- any two of them do
abbrev pub any_share : List Extent → Bool
any_share [] = false
any_share (extent ∷ extents) = list_any (share extent) extents || any_share extents

-- what is wrong with partitions on a disk of this many sectors: the first with a fault by itself, then two that share a
-- sector
abbrev pub partitions_fault : ℕ → List Extent → Option MbrFault
partitions_fault sectors partitions = first_some (
    first_some (map (extent_fault sectors) partitions)
    ∷ when (any_share partitions) Overlap
    ∷ [])

-- what is wrong with the bytes of sector 0: they are too few, not signed, or their entries have a fault
abbrev pub table_fault : ℕ → List ℕ → Option MbrFault
table_fault sectors table = first_some (
    when (nat_lt (length table) 512) ShortSector
    ∷ when (not (is_signed table)) NoSignature
    ∷ partitions_fault sectors (partitions_of (entries_of table))
    ∷ [])

-- the partitions, where there is no fault
abbrev pub unless_fault : Option MbrFault → List Extent → Result (List Extent) MbrFault
unless_fault None partitions = Ok partitions
unless_fault (Some fault) partitions = Err fault

-- what entries say on a disk of this many sectors: the partitions of the used ones, or the first fault
abbrev pub said_of : ℕ → List Entry → Result (List Extent) MbrFault
said_of sectors entries = unless_fault (partitions_fault sectors (partitions_of entries)) (partitions_of entries)

-- what the bytes of sector 0 say on a disk of this many sectors
abbrev pub told_by : ℕ → List ℕ → Result (List Extent) MbrFault
told_by sectors table = unless_fault (table_fault sectors table) (partitions_of (entries_of table))
