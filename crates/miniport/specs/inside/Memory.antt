-- What an adapter in memory keeps, and how it acts on its table.
use Rattle.std.specs.Prelude.{◌≡◌, ◌≢◌, ◌≤◌, ◌<◌, ◌^◌, ◌⊎◌, ℕ, ◌+◌, ◌*◌, Bool, true, IsTrue, List, length, sum_by, Option, Some, None, if◌then◌else◌}
use Rattle.std.specs.List.{concat}
use Rattle.srb.specs.declared.Srb.{Srb}
use Rattle.srb.specs.declared.Entry.{Entry}
use Rattle.srb.specs.declared.Completion.{Completion}
use Rattle.srb.specs.declared.Class.TheVariants.{Bad}
use Rattle.srb.specs.Fate.{class_of}
use Rattle.adapter.specs.Booking.{IsOfSrb}
use Rattle.miniport.specs.declared.on_tag.Booking.TheVariants.{Bytes, Failure}
use Rattle.disk.specs.Medium.{MediumView}
use Rattle.miniport.specs.declared.on_tag.OnTag.{OnTag}
use Rattle.miniport.specs.declared.on_tag.Progress.{Progress}
use Rattle.miniport.specs.declared.on_tag.Progress.TheVariants.{Untouched, Moved as Done, Failed as Refused}
use Rattle.miniport.specs.declared.carrying.Outcome.{Outcome}
use Rattle.miniport.specs.declared.carrying.Outcome.TheVariants.{Moved, Failed}
use Rattle.miniport.specs.Carrying.{IsReady, CarriesOut, FailsBy}
use Rattle.miniport.specs.Moving.{moved_by}
use Rattle.miniport.specs.inside.Slots.{Table, HasNoneUntouched, piece_at, with_slot, with_moved, with_failed}

-- ACT

-- a piece was taken off its tag, and is put back as its command ended
abbrev pub PutsBack : MediumView → Bool → Table → ℕ → OnTag → Outcome → MediumView → Table → Type 0
PutsBack medium write_protected table tag on (Moved srb) medium' table' =
    CarriesOut medium write_protected on.srb srb medium'
    × (table' ≡ with_moved tag (record on { srb = srb; progress = Done }) table)
PutsBack medium write_protected table tag on (Failed srb completion) medium' table' =
    FailsBy medium write_protected on.srb srb completion medium'
    × (table' ≡ with_failed tag (record on { srb = srb; progress = Refused completion }) table)

-- the tag's piece, if it had done nothing yet, is carried out or failed
pub record ActsIn (medium : MediumView) (write_protected : Bool) (table : Table) (tag : ℕ) (medium' : MediumView) (table' : Table) : Type 0 where
  pub on : OnTag
  pub outcome : Outcome
  pub there : piece_at table.slots tag ≡ Some on
  pub untouched : on.progress ≡ Untouched
  pub puts_back : PutsBack medium write_protected (with_slot tag None table) tag on outcome medium' table'

pub record ActsNotIn (medium : MediumView) (table : Table) (tag : ℕ) (medium' : MediumView) (table' : Table) : Type 0 where
  pub none : HasNoneUntouched table.slots tag
  pub same_medium : medium' ≡ medium
  pub same_table : table' ≡ table

-- WHAT IT KEEPS

abbrev pub left_by : Progress → ℕ
left_by Untouched = 2
left_by Done = 1
left_by (Refused completion) = 1

-- how many failures may still be counted for a piece
abbrev pub failures_left : Option OnTag → ℕ
failures_left None = 0
failures_left (Some on) = if on.was_reset then 0 else left_by on.progress

-- the data are the bytes of an act that the SRB asks for
abbrev pub HasBooked : ℕ → ℕ → Srb → Type 0
HasBooked size sectors srb = (entry : Entry) × IsOfSrb size sectors srb entry × (srb.data ≡ entry.bytes)

pub record IsPieceRight (keeps : Bool) (medium : MediumView) (failures : ℕ) (on : OnTag) : Type 0 where
  pub ready : IsReady medium on.srb
  pub buffers : on.progress ≡ Untouched → IsTrue keeps → length on.srb.data ≤ on.srb.for_label
  pub moved : on.progress ≡ Done → concat (moved_by medium.sector_size on.srb.block on.srb.data) ≡ on.srb.data
  pub counted : on.failures_before ≤ failures
  pub failed : (completion : Completion) → on.progress ≡ Refused completion → (class_of completion ≡ Bad completion) × (on.failures_before < failures)
  pub met : on.was_reset ≡ true → (on.failures_before < failures) × (on.progress ≡ Untouched → ⊥)
  pub booked : on.progress ≡ Untouched → on.booking ≡ Bytes → (on.piece ≢ 0) × HasBooked medium.sector_size (length medium.sectors) on.srb
  pub failing : (completion : Completion) → on.booking ≡ Failure completion → class_of completion ≡ Bad completion

abbrev pub ArePiecesRight : Bool → MediumView → ℕ → List (Option OnTag) → Type 0
ArePiecesRight keeps medium failures slots = (tag : ℕ) (on : OnTag) → piece_at slots tag ≡ Some on → IsPieceRight keeps medium failures on

pub record AdapterKept (medium : MediumView) (longest : ℕ) (table : Table) : Type 0 where
  pub sector_size : (medium.sector_size ≡ 512) ⊎ (medium.sector_size ≡ 4096)
  pub sectors : (1 ≤ length medium.sectors) × (length medium.sectors ≤ 2 ^ 40)
  pub max_transfer : (1 ≤ longest) × (longest ≤ 2 ^ 16)
  pub depth : (1 ≤ length table.slots) × (length table.slots ≤ 32)
  pub pieces : ArePiecesRight table.keeps_bytes medium table.failures table.slots
  pub accepted : table.accepted ≤ 2 ^ 100
  pub failures : table.failures + sum_by failures_left table.slots ≤ 2 * table.accepted
  pub medium_failures : medium.failures ≤ table.failures
  pub labels : length table.labels ≤ 64
