-- A run of a machine whose sectors stand elsewhere, and the journal of what its acts did there.
use Rattle.std.specs.Prelude.{◌≡◌, ℕ, ◌+◌, List, [], ◌∷◌, Some, map, length, All, IsTrue}
use mathlib.Core.Logic.{inl, inr}
use Rattle.sector.specs.Extents.{IsSector, sectors_in}
use Rattle.srb.specs.declared.Entry.{Entry}
use Rattle.srb.specs.declared.DeviceLabel.{DeviceLabel}
use Rattle.srb.specs.declared.DeviceLabel.TheVariants.{Start, Act, Fault, Return}
use Rattle.srb.specs.Replaying.{Replays}
use Rattle.machine.specs.declared.Label.{Label}
use Rattle.machine.specs.declared.Label.TheVariants.{Call, Device, Answer, Cancel, Pause, Resume, Remove, Surprise, Removed}
use Rattle.machine.specs.Rules.{Rules, first_sector, home, is_transfer, as_faithful}
use Rattle.machine.specs.State.{State}
use Rattle.machine.specs.Map.{IsMap}
use Rattle.machine.specs.Sending.{Acts, partition_number}
use Rattle.machine.specs.Step.{DeviceStep, FreeStep, Step, Run}
use Rattle.machine_laws.specs.Reached.{IsReached}

-- ITS ENTRIES AND THE ACTS OF A RUN

-- the entry is this act's
pub record IsEntryOf (rules : Rules) (s : State) (number : ℕ) (bytes : List ℕ) (s' : State) (act : Acts rules s number bytes s') (entry : Entry) : Type 0 where
  pub piece : entry.piece ≡ number
  pub tag : entry.tag ≡ act.piece.tag
  pub kind : entry.kind ≡ act.owner.request.kind
  pub place : IsTrue (is_transfer act.owner.request.kind)
      → entry.extent.first ≡ home rules (Some (partition_number act.owner.request)) (first_sector rules act.owner.request + act.piece.places.first)
  pub count : IsTrue (is_transfer act.owner.request.kind) → entry.extent.count ≡ act.piece.places.count
  pub bytes_are : entry.bytes ≡ bytes

-- an act takes the first entry, which is its own, and any other label none
abbrev pub DeviceTakes : (rules : Rules) (s : State) (label : DeviceLabel) (s' : State) → DeviceStep rules s label s' → List Entry → List Entry → Type 0
DeviceTakes rules s (Start piece tag block) s' h entries left = left ≡ entries
DeviceTakes rules s (Act piece bytes) s' h entries left = (entry : Entry) × (entries ≡ entry ∷ left) × IsEntryOf rules s piece bytes s' h entry
DeviceTakes rules s (Fault piece) s' h entries left = left ≡ entries
DeviceTakes rules s (Return piece class) s' h entries left = left ≡ entries

abbrev pub FreeTakes : (rules : Rules) (s : State) (label : Label) (s' : State) → FreeStep rules s label s' → List Entry → List Entry → Type 0
FreeTakes rules s (Device label) s' h entries left = DeviceTakes rules s label s' h entries left
FreeTakes rules s (Call number q) s' h entries left = left ≡ entries
FreeTakes rules s (Answer number status informed bytes) s' h entries left = left ≡ entries
FreeTakes rules s (Cancel number) s' h entries left = left ≡ entries
FreeTakes rules s Pause s' h entries left = left ≡ entries
FreeTakes rules s Resume s' h entries left = left ≡ entries
FreeTakes rules s Remove s' h entries left = left ≡ entries
FreeTakes rules s Surprise s' h entries left = left ≡ entries
FreeTakes rules s Removed s' h entries left = left ≡ entries

abbrev pub StepTakes : (rules : Rules) (s : State) (label : Label) (s' : State) → Step rules s label s' → List Entry → List Entry → Type 0
StepTakes rules s label s' (inl h) entries left = FreeTakes rules s label s' h.1 entries left
StepTakes rules s label s' (inr h) entries left = left ≡ entries

-- act n of the run is entry n, and there are no others
abbrev pub AreActsOf : (rules : Rules) (s : State) (labels : List Label) (s' : State) → Run rules s labels s' → List Entry → Type 0
AreActsOf rules s [] s' run entries = entries ≡ []
AreActsOf rules s (label ∷ labels) s' run entries =
    (left : List Entry) × StepTakes rules s label run.0 run.1 entries left × AreActsOf rules run.0 labels s' run.2 left

-- THE LAW

-- the state over these sectors of the disk
abbrev pub over_disk : Rules → List (List ℕ) → State → State
over_disk rules disk s = record s { arrays = map (sectors_in disk) rules.partitions }

-- the labels of a run are a run of the faithful machine, from the disk before the journal to the disk after it
abbrev pub RunsLift : Type 0
RunsLift = (rules : Rules) (s : State) (labels : List Label) (s' : State) (run : Run rules s labels s') (entries : List Entry) (disk after : List (List ℕ))
    → IsReached rules s → IsMap (length disk) rules.partitions → All (IsSector rules.sector_size) disk
    → AreActsOf rules s labels s' run entries → Replays rules.sector_size disk entries after
    → Run (as_faithful rules) (over_disk rules disk s) labels (over_disk rules after s')
