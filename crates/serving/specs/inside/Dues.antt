-- The requests of a session that were read and that aren't answered.
use Rattle.std.specs.Prelude.{◌≡◌, ◌≢◌, ◌≤◌, ◌⊎◌, ℕ, ◌+◌, ◌==◌, Bool, if◌then◌else◌, List, [], ◌∷◌, ◌++◌, length, replicate, slice_get, Option, Some, None, Ok}
use Rattle.ntstatus.specs.declared.NtStatus.TheVariants.{Success}
use Rattle.io_manager.specs.declared.Answer.{Answer}
use Rattle.io_manager.specs.declared.Handle.{Handle}
use Rattle.io_manager.specs.declared.Refusal.{Refusal}
use Rattle.io_manager.specs.Shown.{ManagerView}
use Rattle.compose.specs.declared.Event.{Event}
use Rattle.compose.specs.declared.Event.TheVariants.{Read as ReadEvent, Write as WriteEvent, Flush as FlushEvent}
use Rattle.nbd.specs.declared.arrays.Sizes.{Sizes}
use Rattle.nbd.specs.declared.requests.Command.{Command}
use Rattle.nbd.specs.declared.requests.Command.TheVariants.{Read, Write, Flush, WriteZeroes}
use Rattle.nbd.specs.declared.requests.ReplyError.TheVariants.{Enomem}
use Rattle.nbd.specs.Requests.{command_in}
use Rattle.nbd.specs.Replies.{Outcome, failure, outcome_of, success}
use Rattle.nbd.specs.Beside.{Taken}
use Rattle.serving.specs.Beside.{ClearsIn, Gone, IsCalled, IsServedIn}
use Rattle.serving.specs.Filed.{refusal_error, status_error, total}
use Rattle.serving.specs.declared.dues.Due.{Due}
use Rattle.serving.specs.declared.dues.Ready.{Ready}
use Rattle.serving.specs.declared.dues.Stage.{Stage}
use Rattle.serving.specs.declared.dues.Stage.TheVariants.{Waits, Ready as IsReady}
use Rattle.serving.specs.declared.elsewhere.Reached.{Reached}
use Rattle.serving.specs.declared.elsewhere.Reached.TheVariants.{Called, Answered, Refused}

-- WHAT THE STACK IS ASKED FOR

-- the command asks for this first, which writes so many zeros
abbrev pub BeginsBy : Handle → Command → List ℕ → ℕ → Event → Type 0
BeginsBy handle (Read offset count) payload done event = (buffer : List ℕ) × (length buffer ≡ count) × (event ≡ ReadEvent handle offset buffer)
BeginsBy handle (Write offset count through) payload done event = event ≡ WriteEvent handle offset payload through
BeginsBy handle Flush payload done event = event ≡ FlushEvent handle
BeginsBy handle (WriteZeroes offset count through) payload done event = (done ≤ count) × (event ≡ WriteEvent handle offset (replicate done 0) through)

-- behind so many zeros the command asks for this, and then so many were asked for
abbrev pub GoesOnBy : Handle → Command → ℕ → ℕ → Event → Type 0
GoesOnBy handle (WriteZeroes offset count through) before done event =
    (next : ℕ) × (done ≡ before + next) × (done ≤ count) × (event ≡ WriteEvent handle (offset + before) (replicate next 0) through)
GoesOnBy handle _ before done event = ⊥

-- behind what happened so far the command asks for this event, the last of so many zeros
abbrev pub AsksNow : ManagerView → Handle → Gone → Command → List ℕ → ℕ → Event → Type 0
AsksNow stack handle gone (Read offset count) payload done event = (buffer : List ℕ) × (length buffer ≡ count) × (event ≡ ReadEvent handle offset buffer)
AsksNow stack handle gone (Write offset count through) payload done event = event ≡ WriteEvent handle offset payload through
AsksNow stack handle gone Flush payload done event = event ≡ FlushEvent handle
AsksNow stack handle gone (WriteZeroes offset count through) payload done event =
    (counts : List ℕ) × (next : ℕ) × ClearsIn stack handle gone offset counts through × (done ≡ total counts + next) × (done ≤ count)
    × (event ≡ WriteEvent handle (offset + total counts) (replicate next 0) through)

-- HOW IT ENDS

-- by the bytes of the stack's answer
abbrev pub zeros_at : ℕ → ℕ → Outcome
zeros_at count done = if done == count then success [] else failure Enomem

abbrev pub command_success : Command → ℕ → List ℕ → Outcome
command_success (Read offset count) done bytes = success bytes
command_success (WriteZeroes offset count through) done bytes = zeros_at count done
command_success _ done bytes = success []

abbrev pub success_at : Due → List ℕ → Outcome
success_at due bytes = command_success due.command due.done bytes

-- by the stack's answer, of a storage that had no room for the newest of the writes that it refused, or of another
abbrev pub EndsAs : Due → Bool → Answer → Outcome → Type 0
EndsAs due full answer o = ((answer.status ≡ Success) × (o ≡ success_at due answer.bytes)) ⊎ ((answer.status ≢ Success) × (o ≡ failure (status_error full answer.status)))

abbrev pub IsRefusedAs : Refusal → Outcome → Type 0
IsRefusedAs reason o = o ≡ failure (refusal_error reason)

-- the request's answer is known, and this holds of it
abbrev pub ReadySo : Due → (Outcome → Type 0) → Stage → Type 0
ReadySo due P (IsReady ready) = (ready.place ≡ due.place) × (ready.cookie ≡ due.cookie) × P (outcome_of ready.answer)
ReadySo due P (Waits other) = ⊥

-- where a request stands behind what the stack said to it
abbrev pub IsStageOf : Due → Bool → Reached → Stage → Type 0
IsStageOf due full (Called number) stage = stage ≡ Waits (record due { number = number })
IsStageOf due full (Answered answer) stage = ReadySo due (EndsAs due full answer) stage
IsStageOf due full (Refused reason) stage = ReadySo due (IsRefusedAs reason) stage

-- what of it is in its slot, and what is told next
abbrev pub slot_of : Stage → Option Due
slot_of (Waits due) = Some due
slot_of (IsReady ready) = None

abbrev pub ready_of : Stage → Option Ready
ready_of (Waits due) = None
ready_of (IsReady ready) = Some ready

-- THOSE THAT AREN'T ANSWERED

abbrev pub IsFree : Option Due → Type 0
IsFree slot = slot ≡ None

abbrev pub place_in : Option Due → List ℕ
place_in None = []
place_in (Some due) = due.place ∷ []

-- the places of the requests in the slots
abbrev pub due_places : List (Option Due) → List ℕ
due_places [] = []
due_places (slot ∷ slots) = place_in slot ++ due_places slots

abbrev pub ready_place : Option Ready → List ℕ
ready_place None = []
ready_place (Some ready) = ready.place ∷ []

-- a request waits for the stack's answer
pub record IsWaiting (stack : ManagerView) (handle : Handle) (sizes : Sizes) (gone : Gone) (taken : List Taken) (due : Due) : Type 0 where
  pub one : Taken
  pub at_place : slice_get taken due.place ≡ Some one
  pub named : due.cookie ≡ one.request.cookie
  pub command : command_in sizes.block sizes.bytes one.request ≡ Ok due.command
  pub event : Event
  pub asks : AsksNow stack handle gone due.command one.payload due.done event
  pub called : IsCalled stack gone event due.number

-- the answer of a request is known
pub record IsReadyIn (stack : ManagerView) (handle : Handle) (sizes : Sizes) (gone : Gone) (taken : List Taken) (ready : Ready) : Type 0 where
  pub one : Taken
  pub at_place : slice_get taken ready.place ≡ Some one
  pub named : ready.cookie ≡ one.request.cookie
  pub served : IsServedIn stack handle sizes gone one (outcome_of ready.answer)

abbrev pub IsSlotIn : ManagerView → Handle → Sizes → Gone → List Taken → Option Due → Type 0
IsSlotIn stack handle sizes gone taken None = Unit {0}
IsSlotIn stack handle sizes gone taken (Some due) = IsWaiting stack handle sizes gone taken due

abbrev pub IsNextIn : ManagerView → Handle → Sizes → Gone → List Taken → Option Ready → Type 0
IsNextIn stack handle sizes gone taken None = Unit {0}
IsNextIn stack handle sizes gone taken (Some ready) = IsReadyIn stack handle sizes gone taken ready
