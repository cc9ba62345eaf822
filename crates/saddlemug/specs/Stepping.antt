-- What a stack did, as C is told it.
use Rattle.std.specs.Prelude.{◌≡◌, ◌⊎◌, ℕ, Bool, true, false, List, [], Option, Some, None, MatchOption, slice_get}
use Rattle.std.specs.Option.{option_map}
use Rattle.ntstatus.specs.declared.NtStatus.{NtStatus}
use Rattle.ntstatus.specs.declared.NtStatus.TheVariants.{InsufficientResources, InvalidParameter}
use Rattle.machine.specs.declared.Label.{Label}
use Rattle.io_manager.specs.declared.Answer.{Answer}
use Rattle.io_manager.specs.declared.Reply.{Reply}
use Rattle.io_manager.specs.Right.{IsNextAnswer, TakesAnswer, TakesAnswerOf, TakesLabel}
use Rattle.io_manager.specs.Shown.{ManagerView}
use Rattle.compose.specs.declared.Event.{Event}
use Rattle.compose.specs.Right.{IsRight}
use Rattle.saddlemug.specs.declared.events.EventKind.TheVariants as which
use Rattle.saddlemug.specs.declared.events.StackEvent.{StackEvent}
use Rattle.saddlemug.specs.declared.events.StackReply.{StackReply}
use Rattle.saddlemug.specs.declared.labels.StackAnswer.{StackAnswer}
use Rattle.saddlemug.specs.declared.labels.StackLabel.{StackLabel}
use Rattle.saddlemug.specs.Stacks.{AreToldIn, asked_event, kinds, label_bytes, shown_answer, shown_label, shown_reply}

-- a stack of which all labels were taken
abbrev pub quiet : ManagerView → ManagerView
quiet v = record v { labels = [] }

-- the event that C told was carried out, and its reply was told; a read or a write of more than 65,536 sectors as one of a
-- byte, which is refused as it would be
pub record Steps (old : ManagerView) (e : StackEvent) (bytes : List ℕ) (told : StackReply) (new : ManagerView) : Type 0 where
  pub event : Event
  pub asked : asked_event old.rules.sector_size e bytes ≡ Some event
  pub reply : Reply
  pub right : IsRight (quiet old) event reply new
  pub is_told : told ≡ shown_reply reply

-- nothing was carried out
abbrev pub IsNotStepped : ManagerView → ManagerView → Type 0
IsNotStepped old new = new ≡ old

-- the event is a read or a write, for whose bytes memory is taken: for no more than those of 65,536 sectors
abbrev pub HasBytes : StackEvent → Type 0
HasBytes e = (slice_get kinds e.kind ≡ Some which.Read) ⊎ (slice_get kinds e.kind ≡ Some which.Write)

-- why nothing was carried out: there is no such event, or memory for its bytes was refused
abbrev pub IsStepStatus : StackEvent → List ℕ → NtStatus → Type 0
IsStepStatus e bytes status = ((status ≡ InvalidParameter) × (slice_get kinds e.kind ≡ None)) ⊎ ((status ≡ InsufficientResources) × HasBytes e)

-- what C was told, if it was told anything
abbrev pub told_if : {A : Type 0} → Bool → A → Option A
told_if true told = Some told
told_if false told = None

-- a label was taken, if there was one, and told with its bytes
pub record TellsLabel (old : ManagerView) (before : List ℕ) (told : Option StackLabel) (after : List ℕ) (new : ManagerView) : Type 0 where
  pub found : Option Label
  pub takes : TakesLabel old found new
  pub is_told : told ≡ option_map shown_label found
  pub bytes : MatchOption found (after ≡ before) (λ label. AreToldIn before (label_bytes label) after)

-- the answer that is taken next was told, if there is one
pub record ShowsAnswer (v : ManagerView) (told : Option StackAnswer) : Type 0 where
  pub found : Option Answer
  pub is_next : IsNextAnswer v found
  pub is_told : told ≡ option_map shown_answer found

-- an answer was taken, if there was one, and told with its bytes
pub record TellsAnswer (old : ManagerView) (before : List ℕ) (told : Option StackAnswer) (after : List ℕ) (new : ManagerView) : Type 0 where
  pub found : Option Answer
  pub takes : TakesAnswer old found new
  pub is_told : told ≡ option_map shown_answer found
  pub bytes : MatchOption found (after ≡ before) (λ answer. AreToldIn before answer.bytes after)

-- so was the answer of a number
pub record TellsAnswerOf (old : ManagerView) (number : ℕ) (before : List ℕ) (told : Option StackAnswer) (after : List ℕ) (new : ManagerView) : Type 0 where
  pub found : Option Answer
  pub takes : TakesAnswerOf old number found new
  pub is_told : told ≡ option_map shown_answer found
  pub bytes : MatchOption found (after ≡ before) (λ answer. AreToldIn before answer.bytes after)
