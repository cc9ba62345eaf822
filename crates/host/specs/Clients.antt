-- A client, and what issuing, waiting and marking do to it.
use Rattle.std.specs.Prelude.{◌≡◌, ◌≤◌, ◌<◌, ℕ, ◌+◌, ◌-◌, true, List, [], ◌++◌, Option, Some, None, length, slice_index_or}
use Rattle.machine.specs.declared.Label.TheVariants.{Call as CallLabel}
use Rattle.io_manager.specs.declared.Refusal.TheVariants.{DeletePending}
use Rattle.io_manager.specs.Calls.{IsWant}
use Rattle.io_manager.specs.Right.{as_answer}
use Rattle.atomic_table.specs.Seated.{TableId}
use Rattle.remove_lock.specs.declared.rule.View.{View as PassView}
use Rattle.remove_lock.specs.Gate.{Standing as PassStanding, fresh as fresh_pass}
use Rattle.remove_lock.specs.Answers.{IsHeld}
use Rattle.cancel_marks.specs.declared.rule.View.{View as SeatView}
use Rattle.cancel_marks.specs.declared.Marking.{Marking}
use Rattle.cancel_marks.specs.declared.Marking.TheVariants.{Gone}
use Rattle.cancel_marks.specs.Marks.{Standing as SeatStanding, fresh as fresh_seat}
use Rattle.cancel_marks.specs.Answers.{IsAnswer}
use Rattle.host.specs.declared.call.Answered.{Answered}
use Rattle.host.specs.declared.call.Call.{Call}
use Rattle.host.specs.declared.call.Places.{Places}
use Rattle.host.specs.declared.call.Reason.{Reason}
use Rattle.host.specs.declared.call.Reason.TheVariants.{Refused, TooManyTickets}
use Rattle.host.specs.declared.call.Refusal.{Refusal}
use Rattle.host.specs.Receipts.{Receipt, AreBelow, receipt}
use Rattle.host.specs.Calls.{buffer_of, request_of}
use Rattle.host.specs.Tickets.{TicketView}
use Rattle.host.specs.Accounts.{AccountView, AreAnsweredAt, told_request}

-- how many tickets a client may have out
abbrev pub ticket_limit : ℕ
ticket_limit = 64

-- a client's number, its receipts of calls and of answers, and what it knows of the gate and of the marks
pub record ClientView : Type 0 where
  pub client : ℕ
  pub called : List Receipt
  pub answered : List Receipt
  pub pass : PassView
  pub seat : SeatView

abbrev pub fresh : ℕ → ClientView
fresh client = record { client = client; called = []; answered = []; pass = fresh_pass ticket_limit; seat = fresh_seat [] }

abbrev pub client_at : List ClientView → ℕ → ClientView
client_at clients c = slice_index_or clients c (fresh 0)

-- all clients, by number
pub record AreNumbered (count : ℕ) (clients : List ClientView) : Type 0 where
  pub all : length clients ≡ count
  pub numbers : (c : ℕ) → c < count → (client_at clients c).client ≡ c

-- all clients, by number, none of which has made a step
pub record AreFresh (count : ℕ) (clients : List ClientView) : Type 0 where
  pub all : length clients ≡ count
  pub each : (c : ℕ) → c < count → client_at clients c ≡ fresh c

-- WHAT A CLIENT KEEPS

-- a pass of the gate, and how many of its holds are those of tickets that are out
pub record HoldsView : Type 0 where
  pub pass : PassStanding
  pub out : ℕ

-- the client has a pass of the gate with a hold for each ticket that is out, a seat at the marks, and room for the
-- answers to all tickets
pub record ClientKept (gate marks : TableId) (account : AccountView) (holds : HoldsView) (seat : SeatStanding) : Type 0 where
  pub gate_is : holds.pass.gate ≡ gate
  pub quota : holds.pass.view.quota ≡ ticket_limit
  pub out_is : holds.out ≡ holds.pass.view.holds
  pub few : holds.out ≤ ticket_limit
  pub seat_is : seat.table ≡ marks
  pub room : holds.out ≤ account.answered.room

-- ISSUING

-- a call was issued, at a place above all receipts of the client
pub record IsIssued (partition : ℕ) (old : ClientView) (t : TicketView) (call : Call) (new : ClientView) : Type 0 where
  pub client : t.client ≡ old.client
  pub receipt_is : t.call ≡ receipt t.place (CallLabel t.number (told_request t.slot (request_of partition call))) old.client
  pub above_calls : AreBelow t.place old.called
  pub above_answers : AreBelow t.place old.answered
  pub held : IsHeld old.pass new.pass
  pub adds : new ≡ record old { called = old.called ++ t.call; pass = new.pass }

-- no receipt came
pub record HasNoReceipt (old new : ClientView) : Type 0 where
  pub called : new.called ≡ old.called
  pub answered : new.answered ≡ old.answered

-- why no receipt came: the pass saw the gate closed, or all tickets are out; else there was no memory, or no number for
-- the call
abbrev pub IsWithoutReceipt : ClientView → Reason → ClientView → Type 0
IsWithoutReceipt old (Refused DeletePending) new = new.pass.saw_closed ≡ true
IsWithoutReceipt old (Refused reason) new = IsWant reason
IsWithoutReceipt old TooManyTickets new = old.pass.holds ≡ ticket_limit

-- the receipts of a call that was refused, if any
abbrev pub HasReceipts : ℕ → ClientView → Call → Reason → Option Places → ClientView → Type 0
HasReceipts partition old call reason None new = HasNoReceipt old new × IsWithoutReceipt old reason new
HasReceipts partition old call (Refused reason) (Some places) new = AreAnsweredAt partition call reason places old.client old.called old.answered new.called new.answered
HasReceipts partition old call TooManyTickets (Some places) new = ⊥

-- why a pass got no hold: it saw the gate closed, which it did not close itself, or it has as many as its quota
abbrev pub HasNoHold : Reason → PassView → PassView → Type 0
HasNoHold (Refused DeletePending) old new = (new.holds ≡ old.holds) × (new.quota ≡ old.quota) × (new.saw_closed ≡ true) × (new.closed ≡ old.closed)
HasNoHold (Refused _) old new = ⊥
HasNoHold TooManyTickets old new = (new ≡ old) × (old.holds ≡ old.quota)

-- the call got no ticket, and the caller's bytes come back; the pass has closed nothing
pub record IsRefused (partition : ℕ) (old : ClientView) (call : Call) (refusal : Refusal) (new : ClientView) : Type 0 where
  pub bytes : refusal.bytes ≡ buffer_of call
  pub client : new.client ≡ old.client
  pub holds : new.pass.holds ≡ old.pass.holds
  pub closes_nothing : new.pass.closed ≡ old.pass.closed
  pub seat : new.seat ≡ old.seat
  pub receipts : HasReceipts partition old call refusal.reason refusal.places new

-- WAITING

-- the client was told the answer to the ticket's request, which stands behind its call; the ticket's hold is given back, and
-- the pass has closed nothing
pub record IsWaited (old : ClientView) (t : TicketView) (answered : Answered) (new : ClientView) : Type 0 where
  pub call : answered.places.call ≡ t.place
  pub behind : t.place < answered.places.answer
  pub number : answered.answer.number ≡ t.number
  pub holds : new.pass.holds ≡ old.pass.holds - 1
  pub closes_nothing : new.pass.closed ≡ old.pass.closed
  pub adds : new ≡ record old { answered = old.answered ++ receipt answered.places.answer (as_answer answered.answer) old.client; pass = new.pass }

-- MARKING

-- what the mark on the request of a number met; no mark is made where the call was answered at once
abbrev pub IsMarked : Option ℕ → ℕ → SeatView → Marking → SeatView → Type 0
IsMarked None number old marking new = (marking ≡ Gone) × (new ≡ old)
IsMarked (Some slot) number old marking new = IsAnswer marking slot number old new
