-- Laws of every right step. A crate that keeps the trace of a stack rests on them.
use Rattle.std.specs.Prelude.{◌≡◌, ◌⊎◌, ℕ, List, [], ◌∷◌, ◌++◌, map, All, Contains, IsPermutation, MatchOption}
use Rattle.sector.specs.declared.Extent.{Extent}
use Rattle.machine.specs.declared.ClientRequest.{ClientRequest}
use Rattle.machine.specs.declared.Label.{Label}
use Rattle.machine.specs.declared.Label.TheVariants.{Call, Answer as AnswerLabel}
use Rattle.machine.specs.Rules.{Rules}
use Rattle.io_manager.specs.declared.Answer.{Answer}
use Rattle.io_manager.specs.declared.Reply.{Reply}
use Rattle.io_manager.specs.declared.Reply.TheVariants.{Request as Requested, Refused, Answered}
use Rattle.io_manager.specs.declared.Refusal.TheVariants.{InsufficientResources}
use Rattle.io_manager.specs.Shown.{ManagerView}
use Rattle.io_manager.specs.Calls.{opened_as, status_of_refusal}
use Rattle.io_manager.specs.Right.{AreRising, answer_number}
use Rattle.compose.specs.declared.Event.{Event}
use Rattle.compose.specs.declared.Event.TheVariants.{Read, Write, Flush}
use Rattle.compose.specs.Right.{IsRight, opened_by}

-- a read, a write or a flush
abbrev pub IsTransferEvent : Event → Type 0
IsTransferEvent (Read handle offset buffer) = Unit {0}
IsTransferEvent (Write handle offset bytes through) = Unit {0}
IsTransferEvent (Flush handle) = Unit {0}
IsTransferEvent _ = ⊥

-- the label is no call
abbrev pub IsNoCall : Label → Type 0
IsNoCall (Call number q) = ⊥
IsNoCall _ = Unit {0}

-- a call comes first, if one comes at all, and only where a request was asked for
abbrev pub CallsFirst : Event → List Label → Type 0
CallsFirst event [] = Unit {0}
CallsFirst event (label ∷ labels) = (IsNoCall label ⊎ IsTransferEvent event) × All IsNoCall labels

-- a step has one call at most
abbrev pub StepsCallOnce : Type 0
StepsCallOnce = (old : ManagerView) (event : Event) (reply : Reply) (new : ManagerView) → IsRight old event reply new
    → CallsFirst event new.labels

-- the reply says that memory was asked for: a request was opened, or memory for it was refused
abbrev pub AsksMemory : Reply → Type 0
AsksMemory (Requested id) = Unit {0}
AsksMemory (Refused InsufficientResources bytes) = Unit {0}
AsksMemory _ = ⊥

-- memory is asked for by reads, writes and flushes alone; where it is not, all tables have the room that they had
pub record TakesNoMemory (event : Event) (reply : Reply) (old new : ManagerView) : Type 0 where
  pub for_transfers : AsksMemory reply → IsTransferEvent event
  pub same_places : (AsksMemory reply → ⊥) → new.places ≡ old.places

-- no step takes memory but one that opens a request, or is refused for want of memory
abbrev pub StepsTakeNoMemory : Type 0
StepsTakeNoMemory =
    (old : ManagerView) (event : Event) (reply : Reply) (new : ManagerView) → IsRight old event reply new
    → TakesNoMemory event reply old new

-- a step keeps the rules
abbrev pub StepsKeepRules : Type 0
StepsKeepRules =
    (old : ManagerView) (event : Event) (reply : Reply) (new : ManagerView) → IsRight old event reply new
    → new.rules ≡ old.rules

-- the answers that labels tell, in order
abbrev pub answers_in : List Label → List Answer
answers_in [] = []
answers_in (AnswerLabel number status informed bytes ∷ labels) =
    record { number = number; status = status; information = informed; bytes = bytes } ∷ answers_in labels
answers_in (_ ∷ labels) = answers_in labels

-- these answers, by rising numbers, come to wait beside those that wait already
pub record ComeToWait (told before after : List Answer) : Type 0 where
  pub rising : AreRising (map answer_number told)
  pub wait : IsPermutation after (told ++ before)

-- the reply says this answer of its call: it gives it, or refuses the call with its status
abbrev pub SaysAnswer : Reply → Answer → Type 0
SaysAnswer (Answered answer) told = answer ≡ told
SaysAnswer (Refused reason back) told = (told.status ≡ status_of_refusal reason) × (told.information ≡ 0)
SaysAnswer _ told = ⊥

-- the reply says the one answer, which has no bytes, and none comes to wait
pub record IsSaidAlone (reply : Reply) (told before after : List Answer) : Type 0 where
  pub answer : Answer
  pub one : told ≡ answer ∷ []
  pub says : SaysAnswer reply answer
  pub no_bytes : answer.bytes ≡ []
  pub wait : IsPermutation after before

-- the answers of a step come to wait, or its reply says the only one
abbrev pub StepsLeaveAnswers : Type 0
StepsLeaveAnswers =
    (old : ManagerView) (event : Event) (reply : Reply) (new : ManagerView) → IsRight old event reply new
    → ComeToWait (answers_in new.labels) old.answers new.answers
    ⊎ IsSaidAlone reply (answers_in new.labels) old.answers new.answers

-- the request whose call the step tells under this number opens as this many pieces, on these sectors of the disk
pub record OpensAs (rules : Rules) (told : ℕ × Extent) (number : ℕ) (labels : List Label) : Type 0 where
  pub q : ClientRequest
  pub is_called : Contains labels (Call number q)
  pub as_told : opened_as rules q ≡ told

-- the call opened what was told, or memory for it was refused
abbrev pub OpensOrLacksMemory : ManagerView → ℕ × Extent → Reply → ManagerView → Type 0
OpensOrLacksMemory old told (Requested id) new = OpensAs old.rules told id.number new.labels
OpensOrLacksMemory old told (Refused InsufficientResources bytes) new = Unit {0}
OpensOrLacksMemory old told _ new = ⊥

-- no request is open
abbrev pub OpensNone : Reply → Type 0
OpensNone (Requested id) = ⊥
OpensNone _ = Unit {0}

-- a call opens what was told beforehand, unless memory is refused; where nothing was told, it opens nothing
abbrev pub StepsOpenAsTold : Type 0
StepsOpenAsTold =
    (old : ManagerView) (event : Event) (reply : Reply) (new : ManagerView) → IsRight old event reply new
    → MatchOption (opened_by old event) (OpensNone reply) (λ told. OpensOrLacksMemory old told reply new)
