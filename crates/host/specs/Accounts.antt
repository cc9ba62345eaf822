-- A client's share of the book and its receipts, and what a call and its answer do to them.
use Rattle.std.specs.Prelude.{◌≡◌, ◌≤◌, ◌<◌, ℕ, ◌+◌, List, [], ◌++◌, Option, Some, None, length, slice_index_or}
use Rattle.machine.specs.declared.ClientRequest.{ClientRequest}
use Rattle.machine.specs.declared.Label.TheVariants.{Call as CallLabel, Answer as AnswerLabel}
use Rattle.io_manager.specs.declared.Answer.{Answer}
use Rattle.io_manager.specs.declared.OpenHandle.{OpenHandle}
use Rattle.io_manager.specs.declared.Refusal.{Refusal as Why}
use Rattle.io_manager.specs.Calls.{status_of_refusal, without_bytes, IsWant}
use Rattle.io_manager.specs.Right.{as_answer}
use Rattle.traced.specs.Opening.{IsOpenOn}
use Rattle.traced.specs.Shares.{ShareView}
use Rattle.host.specs.declared.call.Answered.{Answered}
use Rattle.host.specs.declared.call.Call.{Call}
use Rattle.host.specs.declared.call.Places.{Places}
use Rattle.host.specs.declared.call.Reason.{Reason}
use Rattle.host.specs.declared.call.Reason.TheVariants.{Refused, TooManyTickets}
use Rattle.host.specs.declared.call.Refusal.{Refusal}
use Rattle.host.specs.Receipts.{Receipt, ReceiptsView, AreBelow, AreCalls, AreAnswers, AreRising, receipt}
use Rattle.host.specs.Calls.{buffer_of, request_of}
use Rattle.host.specs.Tickets.{TicketView}

-- the partition of a client
abbrev pub partition_of : List ℕ → ℕ → ℕ
partition_of partitions client = slice_index_or partitions client 0

pub record AccountView : Type 0 where
  pub share : ShareView
  pub called : ReceiptsView
  pub answered : ReceiptsView

-- the receipts are of calls and answers of its own, the calls in rising places, as many as its share has counted; its
-- handle is open on its partition
pub record AccountKept (handles : List (Option OpenHandle)) (partitions : List ℕ) (share : ShareView) (called answered : List Receipt) : Type 0 where
  pub counted : share.calls ≡ length called
  pub calls : AreCalls share.client called
  pub rising : AreRising 0 called
  pub answers : AreAnswers share.client answered
  pub handle : IsOpenOn handles share.handle (partition_of partitions share.client)

-- the label of a call has the bytes where it opened a request, which has a slot; a call that was answered at once has none
abbrev pub told_request : Option ℕ → ClientRequest → ClientRequest
told_request None q = without_bytes q
told_request (Some slot) q = q

-- a call was taken in, at a place above all receipts of the client
pub record IsCalled (partition : ℕ) (old : AccountView) (t : TicketView) (call : Call) (new : AccountView) : Type 0 where
  pub client : t.client ≡ old.share.client
  pub receipt_is : t.call ≡ receipt t.place (CallLabel t.number (told_request t.slot (request_of partition call))) old.share.client
  pub above_calls : AreBelow t.place old.called.list
  pub above_answers : AreBelow t.place old.answered.list
  pub same_client : new.share.client ≡ old.share.client
  pub called : new.called.list ≡ old.called.list ++ t.call
  pub answered : new.answered ≡ old.answered

-- the receipts are of a call that the book refused, above all others of the client, and of its answer right behind it
pub record AreAnsweredAt (partition : ℕ) (call : Call) (reason : Why) (places : Places) (client : ℕ) (called answered called' answered' : List Receipt) : Type 0 where
  pub number : ℕ
  pub behind : places.answer ≡ places.call + 1
  pub above_calls : AreBelow places.call called
  pub above_answers : AreBelow places.call answered
  pub called_is : called' ≡ called ++ receipt places.call (CallLabel number (without_bytes (request_of partition call))) client
  pub answered_is : answered' ≡ answered ++ receipt places.answer (AnswerLabel number (status_of_refusal reason) 0 []) client

-- the book turned a call down, with two labels or with none
abbrev pub HasLabels : ℕ → AccountView → Call → Reason → Option Places → AccountView → Type 0
HasLabels partition old call (Refused reason) None new = IsWant reason × (new.called.list ≡ old.called.list) × (new.answered.list ≡ old.answered.list)
HasLabels partition old call (Refused reason) (Some places) new = AreAnsweredAt partition call reason places old.share.client old.called.list old.answered.list new.called.list new.answered.list
HasLabels partition old call TooManyTickets places new = ⊥

pub record IsTurnedDown (partition : ℕ) (old : AccountView) (call : Call) (refusal : Refusal) (new : AccountView) : Type 0 where
  pub bytes : refusal.bytes ≡ buffer_of call
  pub same_client : new.share.client ≡ old.share.client
  pub room : old.answered.room ≤ new.answered.room + 1
  pub labels : HasLabels partition old call refusal.reason refusal.places new

-- the last receipt is of the answer to the request of this number
pub record EndsWithAnswer (number : ℕ) (answered : List Receipt) : Type 0 where
  pub answer : Answer
  pub is_number : answer.number ≡ number
  pub place : ℕ
  pub client : ℕ
  pub before : List Receipt
  pub is : answered ≡ before ++ receipt place (as_answer answer) client

-- the answer to a ticket's request was taken; it stands behind its call
pub record IsTaken (old : AccountView) (number call : ℕ) (answered : Answered) (new : AccountView) : Type 0 where
  pub call_is : answered.places.call ≡ call
  pub behind : call < answered.places.answer
  pub number_is : answered.answer.number ≡ number
  pub same_share : new.share ≡ old.share
  pub same_called : new.called ≡ old.called
  pub room : old.answered.room ≤ new.answered.room + 1
  pub adds : new.answered.list ≡ old.answered.list ++ receipt answered.places.answer (as_answer answered.answer) old.share.client
