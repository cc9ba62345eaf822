-- What no step does: write a sector outside all partitions.
use Rattle.std.specs.Prelude.{◌≤◌, ℕ, ◌+◌, Bool, List, All, Any}
use Rattle.sector.specs.declared.Extent.{Extent}
use Rattle.cdb.specs.Meaning.{AsksToWrite}
use Rattle.adapter.specs.View.{AdapterView, TagInUse}

-- this many sectors from this one on lie in the extent
pub record LieIn (lba count : ℕ) (extent : Extent) : Type 0 where
  pub from : extent.first ≤ lba
  pub to : lba + count ≤ extent.first + extent.count

-- what the piece on a tag asks to write lies in a partition
abbrev pub WritesInside : List Extent → TagInUse → Type 0
WritesInside partitions use' =
    (lba count : ℕ) (fua : Bool) → AsksToWrite use'.srb.block lba count fua → Any (LieIn lba count) partitions

-- all pieces at the adapter write inside the partitions
abbrev pub AllWriteInside : List Extent → AdapterView → Type 0
AllWriteInside partitions adapter = All (WritesInside partitions) adapter.tags
