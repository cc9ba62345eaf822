-- A stack whose sectors stand in a storage: what is told of it, and what its pieces did there.
use Rattle.std.specs.Prelude.{◌≡◌, ◌⊎◌, ℕ, List, [], ◌∷◌, ◌++◌, map, All, Contains, IsFalse, IsTrue, IsPermutation, Result, Ok, Err, MatchResult}
use Rattle.srb.specs.declared.Srb.{Srb}
use Rattle.srb.specs.declared.Entry.{Entry}
use Rattle.srb.specs.declared.Completion.{Completion}
use Rattle.adapter.specs.Booking.{IsArmed, Suits}
use Rattle.adapter.specs.Calls.{HasNoneFresh}
use Rattle.machine.specs.declared.ClientRequest.{ClientRequest}
use Rattle.machine.specs.declared.Label.{Label}
use Rattle.machine.specs.declared.Label.TheVariants.{Call}
use Rattle.machine.specs.State.{opening}
use Rattle.machine.specs.Step.{Run}
use Rattle.io_manager.specs.declared.Answer.{Answer}
use Rattle.io_manager.specs.declared.Refusal.{Refusal}
use Rattle.io_manager.specs.declared.Reply.TheVariants.{Refused}
use Rattle.io_manager.specs.Shown.{ManagerView}
use Rattle.io_manager.specs.Calls.{without_bytes}
use Rattle.io_manager.specs.Right.{BooksPiece, as_answer}
use Rattle.compose.specs.declared.Event.{Event}
use Rattle.compose.specs.Journaled.{IsJournaled}
use Rattle.compose.specs.Right.{IsRight}
use Rattle.volume.specs.Working.{Asks, IsQuiet, answers_of}
use Rattle.machine_laws.specs.Reached.{AreWhole}
use Rattle.file_disk.specs.Transfers.{DiskView, IsOfPiece, Transfers}
use Rattle.serving.specs.Traces.{TraceView, Wrote}
pub use Rattle.file_sessions.specs.Deeds.{Deed, DeedRun, Files}

pub record CarriedView : Type 0 where
  pub stack : ManagerView
  pub disk : DiskView
  pub trace : TraceView

abbrev pub over : ManagerView → DiskView → TraceView → CarriedView
over stack disk trace = record { stack = stack; disk = disk; trace = trace }

-- the trace got the lines of these labels, where labels keep their bytes
abbrev pub WroteOf : CarriedView → List Label → CarriedView → Type 0
WroteOf old labels new = IsTrue old.stack.rules.keeps_bytes → Wrote old.trace labels new.trace

-- the stack's adapter moves no sectors, and the storage has as many sectors as the stack, of the same size
pub record StandsIn (stack : ManagerView) (disk : DiskView) : Type 0 where
  pub apart : IsFalse stack.adapter.faithful
  pub sector_size : disk.sector_size ≡ stack.rules.sector_size
  pub sectors : disk.sectors ≡ stack.rules.disk_sectors

-- PIECES

abbrev pub entry_in : Result Entry Completion → List Entry
entry_in (Ok entry) = entry ∷ []
entry_in (Err completion) = []

-- the entries of the pieces that did not fail
abbrev pub entries_of : List Deed → List Entry
entries_of [] = []
entries_of (deed ∷ deeds) = entry_in deed.what ++ entries_of deeds

-- what came of the tag's piece is booked
pub record HasBooked (old : ManagerView) (before : DiskView) (tag : ℕ) (new : ManagerView) (after : DiskView) : Type 0 where
  pub piece : ℕ
  pub srb : Srb
  pub what : Result Entry Completion
  pub armed : IsArmed old.adapter tag piece srb
  pub transfers : Transfers before tag piece srb what after
  pub suits : Suits before.sector_size before.sectors srb what
  pub of_piece : IsOfPiece tag piece what
  pub books : BooksPiece old tag piece what new

-- no piece of the tag could act, and nothing changes
pub record HasNoneToBook (old : ManagerView) (before : DiskView) (tag : ℕ) (new : ManagerView) (after : DiskView) : Type 0 where
  pub none : HasNoneFresh old.adapter tag
  pub same_stack : new ≡ old
  pub same_disk : after ≡ before

abbrev pub BooksArmed : ManagerView → DiskView → ℕ → ManagerView → DiskView → Type 0
BooksArmed old before tag new after = HasBooked old before tag new after ⊎ HasNoneToBook old before tag new after

-- WHAT IS TOLD

-- from whole arrays these labels are a run of the machine that moves no sectors, whose acts and faults are these deeds
pub record IsTold (arrays : List (List (List ℕ))) (trace : List Label) (deeds : List Deed) (v : ManagerView) : Type 0 where
  pub apart : IsFalse v.rules.faithful
  pub whole : AreWhole v.rules arrays
  pub run : Run v.rules (opening arrays) trace v.state
  pub did : DeedRun v.rules (opening arrays) trace v.state deeds
  pub journaled : IsJournaled trace (entries_of deeds) v

-- whatever was told goes on with these labels, whose acts and faults are these deeds
abbrev pub TellsOn : ManagerView → List Label → List Deed → ManagerView → Type 0
TellsOn old labels deeds new =
    (arrays : List (List (List ℕ))) (trace : List Label) (before : List Deed) → IsTold arrays trace before old → IsTold arrays (trace ++ labels) (before ++ deeds) new

-- the stack moved by these labels, and the storage by what their acts and failures were; answers wait to be taken
pub record Goes (old new : CarriedView) : Type 0 where
  pub labels : List Label
  -- none of them is a call, a cancel, or pauses or removes the device
  pub all_quiet : All IsQuiet labels
  pub deeds : List Deed
  pub same_rules : new.stack.rules ≡ old.stack.rules
  pub same_handles : new.stack.handles ≡ old.stack.handles
  pub same_paused : new.stack.state.paused ≡ old.stack.state.paused
  pub run : Run old.stack.rules old.stack.state labels new.stack.state
  pub told : TellsOn old.stack labels deeds new.stack
  pub files : Files old.disk deeds new.disk
  pub untaken : IsPermutation (map as_answer new.stack.answers) (answers_of labels ++ map as_answer old.stack.answers)
  pub stands : StandsIn old.stack old.disk → StandsIn new.stack new.disk
  pub wrote : WroteOf old labels new

-- REQUESTS

-- one call stands first, and it is the only one; nor is there a cancel, or a label that pauses or removes the device
pub record HasOneCall (labels : List Label) : Type 0 where
  pub number : ℕ
  pub request : ClientRequest
  pub behind : List Label
  pub first : labels ≡ Call number request ∷ behind
  pub all_quiet : All IsQuiet behind

-- the event's request was called under the answer's number, and nothing else was. The answer is one of what was told
pub record IsAnsweredBy (old : CarriedView) (event : Event) (answer : Answer) (labels : List Label) : Type 0 where
  pub request : ClientRequest
  pub asks : Asks old.stack event request
  -- a request of no bytes is answered at once, and the label of its call has no bytes
  pub called : Contains labels (Call answer.number request) ⊎ Contains labels (Call answer.number (without_bytes request))
  pub answered : Contains labels (as_answer answer)
  pub alone : HasOneCall labels

-- the stack, on which no answer waited, refused the event at once, and nothing was moved
pub record IsRefusedAtOnce (old : CarriedView) (event : Event) (reason : Refusal) (labels : List Label) (deeds : List Deed) : Type 0 where
  pub after : ManagerView
  pub bytes : List ℕ
  pub refused : IsRight (record old.stack { answers = [] }) event (Refused reason bytes) after
  pub told : labels ≡ after.labels
  pub none_moved : deeds ≡ []

-- a request went from its call to its answer, or was refused at once. The stack moved by these labels alone, and the
-- storage by what their acts were
pub record Requests (old : CarriedView) (event : Event) (result : Result Answer Refusal) (new : CarriedView) : Type 0 where
  pub labels : List Label
  pub deeds : List Deed
  pub same_rules : new.stack.rules ≡ old.stack.rules
  pub same_handles : new.stack.handles ≡ old.stack.handles
  pub told : TellsOn old.stack labels deeds new.stack
  pub files : Files old.disk deeds new.disk
  pub wrote : WroteOf old labels new
  pub answered : MatchResult result (λ answer. IsAnsweredBy old event answer labels) (λ reason. IsRefusedAtOnce old event reason labels deeds)
