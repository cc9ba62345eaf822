-- Clients that are made one by one.
use Rattle.std.proofs.Common.{◌≡◌, ◌≢◌, ℕ, ◌+◌, ◌<◌, List, [], ◌∷◌, ◌++◌, length, Option, Some, sym, ap, ◌∙◌, subst, arith, length-append}
use Rattle.std.specs.Prelude.{All, option_to_list}
use Rattle.host.proofs.Common.{get_or_append_left, All-nil, All-cons, All-head, All-tail, get_or-append_seam, TableId, none_yet, AccountView, IsClientPass}
use mathlib.Core.Logic.{dite}
use native.Mathlib.Decide.{ℕ_discrete}
use Rattle.io_manager.specs.declared.Handle.{Handle}
use Rattle.remove_lock.specs.declared.rule.View.{View as PassView}
use Rattle.remove_lock.specs.Gate.{Standing as PassStanding, fresh as fresh_pass}
use Rattle.cancel_marks.specs.declared.rule.View.{View as SeatView}
use Rattle.cancel_marks.specs.Marks.{Standing as SeatStanding, IsOther}
use Rattle.host.specs.Clients.{ClientKept, ClientView, client_at, fresh, ticket_limit}

module _ {A : Type 0} (P : A → Type 0) where
  last_of : (ys : List A) (y : A) → All P (ys ++ y ∷ []) → P y × All P ys
  last_of [] y all = (All-head P y [] all, All-nil P)
  last_of (x ∷ ys) y all =
      let r = last_of ys y (All-tail P x (ys ++ y ∷ []) all) in
      (r.0, All-cons P x ys (All-head P x (ys ++ y ∷ []) all) r.1)

  -- what was popped
  pub popped : (old new : List A) (o : Option A) (x : A) → o ≡ Some x → old ≡ new ++ option_to_list o → All P old → P x × All P new
  popped old new o x is items all = last_of new x (subst (All P) (items ∙ ap (λ (p : Option A). new ++ option_to_list p) is) all)

pub one_less : {A : Type 0} (old new : List A) (o : Option A) (x : A) → o ≡ Some x → old ≡ new ++ option_to_list o → length old ≡ length new + 1
one_less old new o x is items = ap length (items ∙ ap (λ p. new ++ option_to_list p) is) ∙ length-append new (x ∷ [])

pub new_client : (gate marks : TableId) (account : AccountView) (pass : PassStanding) (seat : SeatStanding) → IsClientPass gate pass → seat.table ≡ marks → ClientKept gate marks account (record { pass = pass; out = 0 }) seat
new_client gate marks account pass seat is table = record {
  gate_is = ap (λ p. p.gate) is;
  quota = ap (λ p. p.view.quota) is;
  out_is = sym (ap (λ p. p.view.holds) is);
  few = omega arith;
  seat_is = table;
  room = omega arith;
}

pub fresh_more : (clients : List ClientView) (x : ClientView) (n : ℕ) → length clients ≡ n → ((k : ℕ) → k < n → client_at clients k ≡ fresh k) → x ≡ fresh n → (k : ℕ) → k < n + 1 → client_at (clients ++ x ∷ []) k ≡ fresh k
fresh_more clients x n long all is k less =
    dite (ℕ_discrete k n)
    (λ (e : k ≡ n). ap (client_at (clients ++ x ∷ [])) (e ∙ sym long) ∙ get_or-append_seam clients x [] (fresh 0) ∙ is ∙ ap fresh (sym e))
    (λ (ne : k ≢ n).
    let front : k < n = omega arith in
    let inside : k < length clients = omega (arith, long) in
    get_or_append_left clients (x ∷ []) (fresh 0) k inside ∙ all k front)

abbrev pub client_of : AccountView → PassView → SeatView → ClientView
client_of account pass seat = record { client = account.share.client; called = account.called.list; answered = account.answered.list; pass = pass; seat = seat }

abbrev pub first_account : ℕ → Handle → AccountView
first_account n handle = record { share = record { client = n; handle = handle; calls = 0 }; called = none_yet; answered = none_yet }

-- a client that was just made
pub is_fresh : (gate marks : TableId) (n : ℕ) (handle : Handle) (account : AccountView) (pass : PassStanding) (seat : SeatStanding) → account ≡ first_account n handle → IsClientPass gate pass → IsOther marks seat → client_of account pass.view seat.view ≡ fresh n
is_fresh gate marks n handle account pass seat is passed seated =
    ap (λ (a : AccountView). client_of a pass.view seat.view) is
    ∙ ap (λ (p : PassStanding). client_of (first_account n handle) p.view seat.view) passed
    ∙ ap (λ (s : SeatView). client_of (first_account n handle) (fresh_pass ticket_limit) s) seated.1
