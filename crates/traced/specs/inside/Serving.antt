-- How labels serve the requests that they are of.
use Rattle.std.specs.Prelude.{◌≡◌, ◌⊎◌, Contains, ◌<◌, ◌≤◌, ◌==◌, ℕ, ◌+◌, Bool, true, false, List, [], ◌∷◌, Option, Some, length, if◌then◌else◌}
use Rattle.machine.specs.declared.Label.{Label}
use Rattle.machine.specs.declared.Label.TheVariants.{Call, Answer as AnswerLabel}
use Rattle.machine.specs.Step.{Run}
use Rattle.machine_laws.specs.LabelsLeft.{labels_left}
use Rattle.io_manager.specs.declared.Answer.{Answer}
use Rattle.io_manager.specs.declared.Id.{Id}
use Rattle.io_manager.specs.declared.Reply.{Reply}
use Rattle.io_manager.specs.declared.Reply.TheVariants.{Request as Requested}
use Rattle.io_manager.specs.Calls.{number_limit}
use Rattle.io_manager.specs.Right.{IsSlotOf, as_answer}
use Rattle.io_manager.specs.Shown.{ManagerView}
use Rattle.compose.specs.declared.Event.{Event}
use Rattle.traced.specs.Sizes.{sizes_of}
use Rattle.traced.specs.inside.Sizes.{brought_by}
use Rattle.traced.specs.inside.Slots.{unless_number}
use Rattle.traced.specs.Told.{AreNoCalls}
use Rattle.traced.specs.Serving.{open_at, is_call_event, is_handle_event}

-- the number in a slot once the reply's request is open
abbrev pub admitted_at : Reply → ℕ → Option ℕ → Option ℕ
admitted_at (Requested id) k number = if id.slot == k then Some id.number else number
admitted_at _ k number = number

-- the number in a slot, unless one of these labels answers it
abbrev pub unless_told : List Label → Option ℕ → Option ℕ
unless_told [] number = number
unless_told (AnswerLabel answered status informed bytes ∷ labels) number = unless_told labels (unless_number answered number)
unless_told (_ ∷ labels) number = unless_told labels number

-- at most one of these labels is a call
abbrev pub HaveOneCall : List Label → Type 0
HaveOneCall [] = Unit {0}
HaveOneCall (Call number q ∷ labels) = AreNoCalls labels
HaveOneCall (_ ∷ labels) = HaveOneCall labels

abbrev pub HaveCallsOf : Bool → List Label → Type 0
HaveCallsOf true labels = HaveOneCall labels
HaveCallsOf false labels = AreNoCalls labels

-- a request that was opened has a slot, and the next number
pub record HasSlot (old : ManagerView) (id : Id) (new : ManagerView) : Type 0 where
  pub slot : IsSlotOf old.rules.open_requests id.slot
  pub number : id.number ≡ old.state.next_request
  pub small : id.number < number_limit
  pub given : id.number < new.state.next_request

abbrev pub OpensSlot : ManagerView → Reply → ManagerView → Type 0
OpensSlot old (Requested id) new = HasSlot old id new
OpensSlot old _ new = Unit {0}

-- what the trace, its rows and the slots need of a right step
pub record Serves (old : ManagerView) (event : Event) (reply : Reply) (new : ManagerView) : Type 0 where
  pub same_rules : new.rules ≡ old.rules
  pub run : Run old.rules old.state new.labels new.state
  pub handles : is_handle_event event ≡ false → new.handles ≡ old.handles
  pub calls : HaveCallsOf (is_call_event event) new.labels
  pub opens : OpensSlot old reply new
  pub holders : (k : ℕ) → open_at new k ≡ unless_told new.labels (admitted_at reply k (open_at old k))
  -- each answer that waits is told by the step, or waited before
  pub answers : (answer : Answer) → Contains new.answers answer → Contains new.labels (as_answer answer) ⊎ Contains old.answers answer
  pub used_up : labels_left old.rules new.state + length new.labels ≤ labels_left old.rules old.state + brought_by (sizes_of old.rules) event
