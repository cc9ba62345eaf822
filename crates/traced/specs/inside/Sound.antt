-- What a traced stack keeps.
use Rattle.std.specs.Prelude.{◌≡◌, Contains, ◌<◌, ◌≤◌, ◌^◌, ℕ, List, [], Option, Some, IsFalse, IsTrue}
use Rattle.machine.specs.declared.Label.{Label}
use Rattle.machine.specs.declared.Label.TheVariants.{Answer}
use Rattle.machine.specs.Rules.{Rules}
use Rattle.machine.specs.State.{State}
use Rattle.machine.specs.Step.{Run}
use Rattle.machine_laws.specs.LabelsLeft.{labels_left}
use Rattle.cancel_marks.specs.declared.rule.View.{View}
use Rattle.cancel_marks.specs.Marks.{slot_at}
use Rattle.io_manager.specs.declared.Answer.{Answer as Waiting}
use Rattle.io_manager.specs.declared.OpenHandle.{OpenHandle}
use Rattle.io_manager.specs.declared.Reply.{Reply}
use Rattle.io_manager.specs.declared.Reply.TheVariants.{Request as Requested}
use Rattle.io_manager.specs.Right.{as_answer}
use Rattle.io_manager.specs.Shown.{ManagerView}
use Rattle.traced.specs.Serving.{open_at}
use Rattle.traced.specs.Traced.{TracedView}
use Rattle.traced.specs.Entries.{labels_of}
use Rattle.traced.specs.Log.{LogView}
use Rattle.traced.specs.inside.Slots.{SlotsView, number_at, ArmedBelow, unless_number}
use Rattle.traced.specs.Told.{AreTold}

-- what a traced stack of these parts shows
abbrev pub shown : ManagerView → LogView → SlotsView → TracedView
shown stack log slots = record { stack = stack; entries = log.entries; owners = log.owners; marks = slots.owner }

-- the parts of a traced stack between two steps
pub record IsSound (rules : Rules) (opening : State) (handles : List (Option OpenHandle)) (count : ℕ) (stack : ManagerView) (log : LogView) (slots : SlotsView) : Type 0 where
  pub same_rules : stack.rules ≡ rules
  -- requests are cut on the grid, so that no labels come without end
  pub on_grid : IsFalse rules.any_cut
  pub keeps_bytes : IsTrue rules.keeps_bytes
  pub as_many : rules.open_requests ≡ Some count
  pub same_handles : stack.handles ≡ handles
  pub taken : stack.labels ≡ []
  pub run : Run rules opening (labels_of log.entries) stack.state
  pub told : AreTold log.entries log.owners stack.state
  -- a slot has the number of the open request there, and was never armed with one that is still to come
  pub numbers : (k : ℕ) → number_at slots.numbers k ≡ open_at stack k
  pub below : ArmedBelow stack.state.next_request slots.owner
  -- each answer that waits to be taken stands in the trace
  pub answered : (answer : Waiting) → Contains stack.answers answer → Contains (labels_of log.entries) (as_answer answer)
  -- all labels that may still come have a place
  pub room : labels_left rules stack.state ≤ log.room

-- the number in a slot, unless this label answers it
abbrev pub unless_label : Label → Option ℕ → Option ℕ
unless_label (Answer answered status informed bytes) number = unless_number answered number
unless_label _ number = number

-- if the reply opens a request, its slot can be armed with it
abbrev pub MayArm : ℕ → View → Reply → Type 0
MayArm count owner (Requested id) = (id.slot < count) × ((slot_at owner id.slot).last < id.number) × (id.number < 2 ^ 62)
MayArm count owner _ = Unit {0}

-- if the reply opens a request, its number is below this one
abbrev pub IsGivenBelow : ℕ → Reply → Type 0
IsGivenBelow next (Requested id) = id.number < next
IsGivenBelow next _ = Unit {0}
