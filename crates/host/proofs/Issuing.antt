-- A call that was taken in, and its receipt.
use Rattle.host.proofs.Common.{◌≡◌, ℕ, ◌-◌, ◌<◌, ◌≤◌, List, [], ◌∷◌, ◌++◌, length, Option, Some, sym, ap, ◌∙◌, subst, IfOk, Result, Ok, Err, slice_get, slice_index_or, slice_get_within, ClientRequest, Label, Rules, State, OpenHandle, BookView, AllStand, TraceEntry, ShareView, TracedView, IsTraced, AccountKept, AccountView, IsCalled, HasCounted, Stands, HoldsRequest, TicketView, WasOpen, are_used_up, true}
use Rattle.machine.specs.declared.Label.TheVariants.{Call as CallLabel}
use Rattle.host.specs.Receipts.{Receipt, ReceiptsView, AreBelow, Answers, receipt}
use Rattle.host.specs.declared.call.Call.{Call}
use Rattle.host.specs.declared.call.Refusal.{Refusal}
use Rattle.host.specs.Tickets.{IsBusy, WasUsedUp}
use Rattle.std.specs.Prelude.{IfErr}
use Rattle.host.proofs.Keeping.{below_more, below_stand}
use Rattle.host.proofs.Accounts.{account_answered, account_called, receipt_is}

-- what was noted of a place
abbrev pub IsNoted : List TraceEntry → ℕ → List Receipt → Type 0
IsNoted es place claim = (e : TraceEntry) × (slice_get es place ≡ Some e) × (claim ≡ (place, e) ∷ [])

-- a call's receipt, above all before
pub record IsReceived (handles : List (Option OpenHandle)) (partitions : List ℕ) (share share' : ShareView) (called called' answered answered' claim : List Receipt) (place number : ℕ) (q : ClientRequest) : Type 0 where
  pub claim_is : claim ≡ receipt place (CallLabel number q) share.client
  pub above_calls : AreBelow place called
  pub above_answers : AreBelow place answered
  pub list : called' ≡ called ++ claim
  pub kept : AccountKept handles partitions share' called' answered'

pub received : (handles : List (Option OpenHandle)) (partitions : List ℕ) (share share' : ShareView) (called checked noted answered answered' : ReceiptsView) (claim : List Receipt) (es mid end new : List TraceEntry) (place number : ℕ) (q : ClientRequest)
    → AccountKept handles partitions share called.list answered.list → AllStand es called.list → mid ≡ es → checked ≡ called → AllStand mid answered.list → end ≡ mid → answered' ≡ answered → length end ≤ place → Stands new place (CallLabel number q) share.client → HasCounted share 1 share'
    → IsNoted new place claim → noted ≡ record { list = checked.list ++ claim; room = checked.room - 1 } → IsReceived handles partitions share share' called.list noted.list answered.list answered'.list claim place number q
received handles partitions share share' called checked noted answered answered' claim es mid end new place number q kept stand same_es same stand_answers same_mid same_answers late stands counted entry noted_is = record {
  claim_is = claim_is;
  above_calls = below_more (length es) place called.list below late';
  above_answers = below_more (length mid) place answered.list (below_stand mid answered.list stand_answers) late_mid;
  list = list;
  kept = subst (λ (r : ReceiptsView). AccountKept handles partitions share' noted.list r.list) (sym same_answers)
      (subst (λ (l : List Receipt). AccountKept handles partitions share' l answered.list) (sym list) (account_called handles partitions share share' called.list answered.list claim (length es) place number q kept counted claim_is below late'));
}
  where
    claim_is : claim ≡ receipt place (CallLabel number q) share.client
    claim_is = receipt_is new place (CallLabel number q) share.client entry.0 claim stands entry.1 entry.2

    below : AreBelow (length es) called.list
    below = below_stand es called.list stand

    late_mid : length mid ≤ place
    late_mid = subst (λ (xs : List TraceEntry). length xs ≤ place) same_mid late

    late' : length es ≤ place
    late' = subst (λ (xs : List TraceEntry). length xs ≤ place) same_es late_mid

    list : noted.list ≡ called.list ++ claim
    list = ap (λ (r : ReceiptsView). r.list) noted_is ∙ ap (λ (r : ReceiptsView). r.list ++ claim) same

-- where something stands, there is an entry
pub stands_within : (es es' : List TraceEntry) (place : ℕ) (label : Label) (client : ℕ) → es' ≡ es → Stands es place label client → place < length es'
stands_within es es' place label client same stands = subst (λ (xs : List TraceEntry). place < length xs) (sym same) (slice_get_within es place _ stands)

-- what was noted stands in the book
pub stands_noted : (old new : BookView) (place : ℕ) (claim : List Receipt) → new ≡ old → IsNoted old.traced.entries place claim → AllStand new.traced.entries claim
stands_noted old new place claim same noted =
    subst (λ (b : BookView). AllStand b.traced.entries claim) (sym same) (subst (AllStand old.traced.entries) (sym noted.2) (noted.1, tt))

-- the same account
pub called_view : (partitions : List ℕ) (v w : AccountView) (t : TicketView) (call : Call) (new : AccountView) → v ≡ w → IsCalled (slice_index_or partitions v.share.client 0) v t call new → IsCalled (slice_index_or partitions w.share.client 0) w t call new
called_view partitions v w t call new same is = subst (λ (x : AccountView). IsCalled (slice_index_or partitions x.share.client 0) x t call new) same is

-- a ticket of a whole book in which its call stands, and whose slot holds its request
pub was_open : (rules : Rules) (start : State) (partitions : List ℕ) (handles : List (Option OpenHandle)) (book : TracedView) (issued : Result TicketView Refusal) → IsTraced rules start partitions handles book
    → IfOk issued (λ t. AllStand book.entries t.call) → IfOk issued (λ t. HoldsRequest book.stack t.slot t.number) → IfOk issued (λ t. WasOpen rules start partitions handles t)
was_open rules start partitions handles book (Ok t) whole stands held = record { book = book; whole = whole; called = stands; held = held }
was_open rules start partitions handles book (Err e) whole stands held = tt

-- a whole book in which all receipts stand, and no number is left
pub was_used_up : (rules : Rules) (start : State) (partitions : List ℕ) (handles : List (Option OpenHandle)) (book : TracedView) (called answered : List Receipt) (issued : Result TicketView Refusal) → IsTraced rules start partitions handles book
    → IfErr issued (λ r. IsBusy r → (AllStand book.entries called) × (AllStand book.entries answered) × (are_used_up book.stack.state.next_request ≡ true)) → IfErr issued (λ r. IsBusy r → WasUsedUp rules start partitions handles called answered)
was_used_up rules start partitions handles book called answered (Ok t) whole used = tt
was_used_up rules start partitions handles book called answered (Err r) whole used = λ busy.
    let u = used busy in record { book = book; whole = whole; calls = u.0; answers = u.1; used_up = u.2 }

-- an answer's receipt
pub record IsAnswerReceived (handles : List (Option OpenHandle)) (partitions : List ℕ) (client : ℕ) (share' : ShareView) (called answered answered' claim : List Receipt) (place : ℕ) (label : Label) : Type 0 where
  pub claim_is : claim ≡ receipt place label client
  pub list : answered' ≡ answered ++ receipt place label client
  pub kept : AccountKept handles partitions share' called answered'

pub answer_received : (handles : List (Option OpenHandle)) (partitions : List ℕ) (share share' : ShareView) (called : List Receipt) (answered noted : ReceiptsView) (claim : List Receipt) (es es' : List TraceEntry) (place : ℕ) (label : Label)
    → AccountKept handles partitions share' called answered.list → share'.client ≡ share.client → es' ≡ es → Stands es place label share.client → Answers label → IsNoted es' place claim
    → noted ≡ record { list = answered.list ++ claim; room = answered.room - 1 } → IsAnswerReceived handles partitions share.client share' called answered.list noted.list claim place label
answer_received handles partitions share share' called answered noted claim es es' place label kept client same stands answers entry noted_is = record {
  claim_is = claim_is;
  list = ap (λ (r : ReceiptsView). r.list) noted_is ∙ ap (λ c. answered.list ++ c) claim_is;
  kept = subst (λ (r : ReceiptsView). AccountKept handles partitions share' called r.list) (sym noted_is)
      (account_answered handles partitions share' called answered.list claim place label kept (claim_is ∙ ap (receipt place label) (sym client)) answers);
}
  where
    claim_is : claim ≡ receipt place label share.client
    claim_is = receipt_is es' place label share.client entry.0 claim (subst (λ (xs : List TraceEntry). Stands xs place label share.client) (sym same) stands) entry.1 entry.2
