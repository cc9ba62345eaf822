-- A ticket: a call that was issued.
use Rattle.std.specs.Prelude.{◌≡◌, ◌<◌, ◌^◌, ℕ, ◌+◌, true, List, Option, Some, None}
use Rattle.machine.specs.declared.ClientRequest.{ClientRequest}
use Rattle.machine.specs.declared.Label.TheVariants.{Call as CallLabel}
use Rattle.machine.specs.Rules.{Rules}
use Rattle.machine.specs.State.{State}
use Rattle.io_manager.specs.declared.OpenHandle.{OpenHandle}
use Rattle.io_manager.specs.Shown.{ManagerView}
use Rattle.chronicle.specs.Claims.{AllStand}
use Rattle.traced.specs.Serving.{open_at}
use Rattle.traced.specs.Traced.{TracedView, IsTraced}
use Rattle.io_manager.specs.declared.Answer.{Answer}
use Rattle.io_manager.specs.Right.{as_answer}
use Rattle.io_manager.specs.Calls.{are_used_up}
use Rattle.io_manager.specs.declared.Refusal.TheVariants.{DeviceBusy}
use Rattle.host.specs.declared.call.Reason.TheVariants.{Refused}
use Rattle.host.specs.declared.call.Refusal.{Refusal}
use Rattle.host.specs.Receipts.{Receipt, receipt}

-- its client, its request's number, the place of its call, its slot where its call opened a request, and the receipt of
-- its call
pub record TicketView : Type 0 where
  pub client : ℕ
  pub number : ℕ
  pub place : ℕ
  pub slot : Option ℕ
  pub call : List Receipt

-- the slot of the request, where one was opened and not answered at once
abbrev pub slot_of : ℕ → Option (Answer × List Receipt) → Option ℕ
slot_of slot None = Some slot
slot_of slot (Some early) = None

-- a request that was opened can be marked, and an answer that came with the call stands right behind it
abbrev pub IsStage : ℕ → ℕ → ℕ → ℕ → ℕ → Option (Answer × List Receipt) → Type 0
IsStage slots client number place slot None = (slot < slots) × (0 < number) × (number < 2 ^ 62)
IsStage slots client number place slot (Some early) = (place + 1 < 2 ^ 64) × (early.0.number ≡ number) × (early.1 ≡ receipt (place + 1) (as_answer early.0) client)

-- what a ticket keeps: its receipt is that of its call
pub record TicketKept (slots client number place : ℕ) (claim : List Receipt) (slot : ℕ) (early : Option (Answer × List Receipt)) : Type 0 where
  pub request : ClientRequest
  pub receipt_is : claim ≡ receipt place (CallLabel number request) client
  pub stage : IsStage slots client number place slot early

-- a slot, where there is one, holds the request of this number
abbrev pub HoldsRequest : ManagerView → Option ℕ → ℕ → Type 0
HoldsRequest stack None number = Unit {0}
HoldsRequest stack (Some slot) number = open_at stack slot ≡ Some number

-- at one moment the ticket's call stood in the trace, and its slot held just its request
pub record WasOpen (rules : Rules) (opening : State) (partitions : List ℕ) (handles : List (Option OpenHandle)) (t : TicketView) : Type 0 where
  pub book : TracedView
  pub whole : IsTraced rules opening partitions handles book
  pub called : AllStand book.entries t.call
  pub held : HoldsRequest book.stack t.slot t.number

-- the call was refused as busy, and the trace tells nothing of it
abbrev pub IsBusy : Refusal → Type 0
IsBusy refusal = (refusal.reason ≡ Refused DeviceBusy) × (refusal.places ≡ None)

-- at one moment all these receipts stood in the trace, and no number was left for a call
pub record WasUsedUp (rules : Rules) (opening : State) (partitions : List ℕ) (handles : List (Option OpenHandle)) (called answered : List Receipt) : Type 0 where
  pub book : TracedView
  pub whole : IsTraced rules opening partitions handles book
  pub calls : AllStand book.entries called
  pub answers : AllStand book.entries answered
  pub used_up : are_used_up book.stack.state.next_request ≡ true
