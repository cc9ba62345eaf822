-- A client's holds, as it issues a call.
use Rattle.std.proofs.Common.{◌≡◌, ◌+◌, ◌-◌, ◌<◌, ◌≤◌, ◌++◌, ℕ, List, Option, Some, None, refl, sym, ap, ◌∙◌, subst, arith}
use Rattle.std.specs.Prelude.{IfErr, IfOk, Result, Ok, Err}
use Rattle.host.proofs.Common.{TableId, DeviceBusy, InsufficientResources, DeletePending, InvalidHandle, InvalidParameter, InvalidDeviceRequest, NotFound, AccountView, IsCalled, IsTurnedDown, ClientView, ticket_limit, Receipt, ReceiptsView, TicketView, AreBelow, Places, receipt, told_request, buffer_of, request_of}
use Rattle.machine.specs.declared.Label.TheVariants.{Call as CallLabel}
use Rattle.remove_lock.specs.declared.rule.View.{View as PassView}
use Rattle.remove_lock.specs.Gate.{Standing as PassStanding, without_hold}
use Rattle.remove_lock.specs.Answers.{IsHeld}
use Rattle.cancel_marks.specs.declared.rule.View.{View as SeatView}
use Rattle.cancel_marks.specs.Marks.{Standing as SeatStanding}
use Rattle.traced.specs.Shares.{ShareView}
use Rattle.host.specs.declared.call.Call.{Call}
use Rattle.host.specs.declared.call.Reason.{Reason}
use Rattle.host.specs.declared.call.Reason.TheVariants.{Refused, TooManyTickets}
use Rattle.host.specs.declared.call.Refusal.{Refusal}
use Rattle.host.specs.Tickets.{IsBusy}
use Rattle.host.specs.Accounts.{AreAnsweredAt, HasLabels, partition_of as partition_for}
use Rattle.host.specs.Clients.{ClientKept, HasNoHold, HasNoReceipt, HasReceipts, HoldsView, IsIssued, IsRefused}

-- the view of a client
abbrev pub view_of : AccountView → HoldsView → SeatView → ClientView
view_of account holds seat = record { client = account.share.client; called = account.called.list; answered = account.answered.list; pass = holds.pass.view; seat = seat }

abbrev seen_of : PassView → SeatView → ℕ → List Receipt → List Receipt → ClientView
seen_of pass seat client called answered = record { client = client; called = called; answered = answered; pass = pass; seat = seat }

abbrev pub IsRefusedFrom : List ℕ → Call → Refusal → ClientView → ClientView → Type 0
IsRefusedFrom partitions call refusal new old = IsRefused (partition_for partitions old.client) old call refusal new

-- what a call came to
pub if_ok : (P : TicketView → Type 0) (r : Result TicketView Refusal) (t : TicketView) → r ≡ Ok t → IfOk r P → P t
if_ok P r t is h = subst (λ (x : Result TicketView Refusal). IfOk x P) is h

pub if_err : (P : Refusal → Type 0) (r : Result TicketView Refusal) (e : Refusal) → r ≡ Err e → IfErr r P → P e
if_err P r e is h = subst (λ (x : Result TicketView Refusal). IfErr x P) is h

-- what a refused hold leaves of a pass
record Leaves (old new : PassView) : Type 0 where
  pub holds : new.holds ≡ old.holds
  pub quota : new.quota ≡ old.quota
  pub closed : new.closed ≡ old.closed

no_hold : (reason : Reason) (old new : PassView) → HasNoHold reason old new → Leaves old new
no_hold (Refused DeletePending) old new h = record { holds = h.0; quota = h.1; closed = h.3 }
no_hold TooManyTickets old new h = record { holds = ap (λ (v : PassView). v.holds) h.0; quota = ap (λ (v : PassView). v.quota) h.0; closed = ap (λ (v : PassView). v.closed) h.0 }
no_hold _ old new h = absurd h

no_receipts : (partition : ℕ) (old : ClientView) (call : Call) (reason : Reason) (new : ClientView) → old.pass.quota ≡ ticket_limit → HasNoReceipt old new → HasNoHold reason old.pass new.pass → HasReceipts partition old call reason None new
no_receipts partition old call (Refused DeletePending) new quota none h = (none, h.2)
no_receipts partition old call TooManyTickets new quota none h = (none, h.1 ∙ quota)
no_receipts partition old call _ new quota none h = absurd h

module _ (gate marks : TableId) (account account' : AccountView) (holds holds' : HoldsView) (seat : SeatStanding) (kept : ClientKept gate marks account holds seat) (gate_is : holds'.pass.gate ≡ gate) (out : holds'.out ≡ holds.out) where
  -- where there is no hold
  pub kept_without : (reason : Reason) → account.answered.room ≤ account'.answered.room → HasNoHold reason holds.pass.view holds'.pass.view → ClientKept gate marks account' holds' seat
  kept_without reason more h =
      let same = no_hold reason holds.pass.view holds'.pass.view h in
      record {
        gate_is = gate_is;
        quota = same.quota ∙ kept.quota;
        out_is = out ∙ kept.out_is ∙ sym same.holds;
        few = subst (λ (n : ℕ). n ≤ ticket_limit) (sym out) kept.few;
        seat_is = kept.seat_is;
        room = (let room = kept.room in omega (arith, out, room, more));
      }

  module _ (awaited : ℕ) (awaited_is : awaited ≡ holds.out) (room : awaited < account'.answered.room) (held : IsHeld holds.pass.view holds'.pass.view) (account'' : AccountView) (holds'' : HoldsView) where
    one_more : holds'.pass.view.holds ≡ holds.pass.view.holds + 1
    one_more = ap (λ (v : PassView). v.holds) held.0

    -- where the hold is a ticket's
    pub kept_out : holds''.pass ≡ holds'.pass → holds''.out ≡ holds'.out + 1 → account''.answered ≡ account'.answered → ClientKept gate marks account'' holds'' seat
    kept_out same more answered =
        let quota : holds.pass.view.quota ≡ 64 = kept.quota in
        let less = held.3 in
        let out_is = kept.out_is in
        let holds_is : holds''.pass.view.holds ≡ holds'.pass.view.holds = ap (λ (p : PassStanding). p.view.holds) same in
        let room_is : account''.answered.room ≡ account'.answered.room = ap (λ (r : ReceiptsView). r.room) answered in
        record {
          gate_is = ap (λ (p : PassStanding). p.gate) same ∙ gate_is;
          quota = ap (λ (p : PassStanding). p.view.quota) same ∙ ap (λ (v : PassView). v.quota) held.0 ∙ kept.quota;
          out_is = omega (arith, more, out, out_is, one_more, holds_is);
          few = omega (arith, more, out, out_is, less, quota);
          seat_is = kept.seat_is;
          room = omega (arith, more, out, awaited_is, room, room_is);
        }

    -- where the hold is taken back
    pub kept_back : holds''.pass.gate ≡ gate → holds''.out ≡ holds'.out → holds''.pass.view ≡ without_hold holds'.pass.view holds''.pass.view.found → account'.answered.room ≤ account''.answered.room + 1 → ClientKept gate marks account'' holds'' seat
    kept_back gate_is'' same back less =
        let out_is = kept.out_is in
        let holds_is : holds''.pass.view.holds ≡ holds'.pass.view.holds - 1 = ap (λ (v : PassView). v.holds) back in
        record {
          gate_is = gate_is'';
          quota = ap (λ (v : PassView). v.quota) back ∙ ap (λ (v : PassView). v.quota) held.0 ∙ kept.quota;
          out_is = omega (arith, same, out, out_is, one_more, holds_is);
          few = subst (λ (n : ℕ). n ≤ ticket_limit) (sym (same ∙ out)) kept.few;
          seat_is = kept.seat_is;
          room = omega (arith, same, out, awaited_is, room, less);
        }

-- WHY IT IS BUSY

-- a call that did not reach the book was refused for another reason
pub not_busy : (reason : Reason) (refusal : Refusal) (bytes : List ℕ) {P : Type 0} → refusal ≡ record { reason = reason; bytes = bytes; places = None } → (reason ≡ Refused DeviceBusy → ⊥) → IsBusy refusal → P
not_busy reason refusal bytes is other busy = absurd (other (sym (ap (λ (r : Refusal). r.reason) is) ∙ busy.0))

pub no_hold_other : (reason : Reason) (old new : PassView) → HasNoHold reason old new → reason ≡ Refused DeviceBusy → ⊥
no_hold_other reason old new h is = subst (λ (r : Reason). HasNoHold r old new) is h

-- WHAT THE CLIENT SEES

module _ (partitions : List ℕ) (call : Call) (account account' : AccountView) (holds holds' : HoldsView) (seat : SeatView) (old : ClientView) (view_is : view_of account holds seat ≡ old) (share : account'.share ≡ account.share) (called : account'.called.list ≡ account.called.list) (answered : account'.answered.list ≡ account.answered.list) where
  -- the gate, or the quota of tickets, refused the call
  pub refused_early : (reason : Reason) (refusal : Refusal) → holds.pass.view.quota ≡ ticket_limit → HasNoHold reason holds.pass.view holds'.pass.view → refusal ≡ record { reason = reason; bytes = buffer_of call; places = None } → IsRefusedFrom partitions call refusal (view_of account' holds' seat) old
  refused_early reason refusal quota h is =
      let same = no_hold reason holds.pass.view holds'.pass.view h in
      subst (IsRefusedFrom partitions call refusal (view_of account' holds' seat)) view_is
      (subst (λ (r : Refusal). IsRefusedFrom partitions call r (view_of account' holds' seat) (view_of account holds seat)) (sym is)
      (record {
        bytes = refl;
        client = ap (λ (s : ShareView). s.client) share;
        holds = same.holds;
        closes_nothing = same.closed;
        seat = refl;
        receipts = no_receipts (partition_for partitions account.share.client) (view_of account holds seat) call reason (view_of account' holds' seat) quota (record { called = called; answered = answered }) h;
      }))

  module _ (account'' : AccountView) (holds'' : HoldsView) (held : IsHeld holds.pass.view holds'.pass.view) where
    -- there is a ticket
    pub issued : (t : TicketView) → IsCalled (partition_for partitions account'.share.client) account' t call account'' → holds''.pass ≡ holds'.pass → IsIssued (partition_for partitions old.client) old t call (view_of account'' holds'' seat)
    issued t is same = subst (λ (from : ClientView). IsIssued (partition_for partitions from.client) from t call (view_of account'' holds'' seat)) view_is
        (record {
          client = is.client ∙ ap (λ (s : ShareView). s.client) share;
          receipt_is = subst (λ (s : ShareView). t.call ≡ receipt t.place (CallLabel t.number (told_request t.slot (request_of (partition_for partitions s.client) call))) s.client) share is.receipt_is;
          above_calls = subst (AreBelow t.place) called is.above_calls;
          above_answers = subst (AreBelow t.place) answered is.above_answers;
          held = subst (λ (p : PassStanding). IsHeld holds.pass.view p.view) (sym same) held;
          adds = ap (λ (c : ℕ). seen_of holds''.pass.view seat c account''.called.list account''.answered.list) (is.same_client ∙ ap (λ (s : ShareView). s.client) share)
              ∙ ap (λ (l : List Receipt). seen_of holds''.pass.view seat account.share.client l account''.answered.list) (is.called ∙ ap (λ (l : List Receipt). l ++ t.call) called)
              ∙ ap (λ (l : List Receipt). seen_of holds''.pass.view seat account.share.client (account.called.list ++ t.call) l) (ap (λ (r : ReceiptsView). r.list) is.answered ∙ answered);
        })

    receipts : (reason : Reason) (places : Option Places) → HasLabels (partition_for partitions account.share.client) account' call reason places account'' → HasReceipts (partition_for partitions account.share.client) (view_of account holds seat) call reason places (view_of account'' holds'' seat)
    receipts (Refused DeviceBusy) None l = (record { called = l.1 ∙ called; answered = l.2 ∙ answered }, l.0)
    receipts (Refused InsufficientResources) None l = (record { called = l.1 ∙ called; answered = l.2 ∙ answered }, l.0)
    receipts TooManyTickets None l = absurd l
    receipts (Refused reason) (Some places) l =
        let partition = partition_for partitions account.share.client in
        subst (λ (s : ShareView). AreAnsweredAt partition call reason places s.client account.called.list account.answered.list account''.called.list account''.answered.list) share
        (subst (λ (c : List Receipt). AreAnsweredAt partition call reason places account'.share.client c account.answered.list account''.called.list account''.answered.list) called
        (subst (λ (a : List Receipt). AreAnsweredAt partition call reason places account'.share.client account'.called.list a account''.called.list account''.answered.list) answered l))
    receipts TooManyTickets (Some places) l = absurd l
    receipts _ None l = absurd l.0

    -- the book refused the call, and the hold is taken back
    pub refused_late : (refusal : Refusal) → IsTurnedDown (partition_for partitions account'.share.client) account' call refusal account'' → holds''.pass.view ≡ without_hold holds'.pass.view holds''.pass.view.found → IsRefusedFrom partitions call refusal (view_of account'' holds'' seat) old
    refused_late refusal is back =
        let holds_is : holds''.pass.view.holds ≡ holds'.pass.view.holds - 1 = ap (λ (v : PassView). v.holds) back in
        let more : holds'.pass.view.holds ≡ holds.pass.view.holds + 1 = ap (λ (v : PassView). v.holds) held.0 in
        subst (IsRefusedFrom partitions call refusal (view_of account'' holds'' seat)) view_is
        (record {
          bytes = is.bytes;
          client = is.same_client ∙ ap (λ (s : ShareView). s.client) share;
          holds = omega (arith, holds_is, more);
          closes_nothing = ap (λ (v : PassView). v.closed) back ∙ ap (λ (v : PassView). v.closed) held.0;
          seat = refl;
          receipts = receipts refusal.reason refusal.places (subst (λ (s : ShareView). HasLabels (partition_for partitions s.client) account' call refusal.reason refusal.places account'') share is.labels);
        })
