-- What the events of a schedule make of a register that stands for the sector.
use Rattle.std.proofs.Common.{◌≡◌, inl, inr, ℕ, ◌==◌, ◌&&◌, Bool, true, false, List, Some, refl, sym, ap, subst, map, eq-eqb}
use Rattle.std.specs.Prelude.{All, if◌then◌else◌}
use Rattle.std.specs.List.{filter}
use Rattle.std.proofs.lemmas.Bool.{and_parts, and_from, eqb-true}
use Rattle.srb.specs.declared.Kind.{Kind}
use Rattle.srb.specs.declared.Kind.TheVariants.{Read, Write, Flush}
use Rattle.machine.specs.declared.ClientRequest.{ClientRequest}
use Rattle.machine.specs.Rules.{Rules}
use Rattle.loss.specs.Held.{Change, Puts, Secures, Tries, Doubts, Held, IsOneOf, changed}
use Rattle.loss.specs.Sessions.{Line}
use Rattle.loss.specs.Laws.{value_for}
use Rattle.history_loss.specs.Schedules.{Event, IsAt, IsNoAnswer, IsNoEffect, IsNoFailure, next_number}
use Rattle.register_loss.specs.declared.What.{What}
use Rattle.register_loss.specs.declared.What.TheVariants.{Read as Reads, Write as Writes, Flush as Flushes, Sync}
use Rattle.register_loss.specs.declared.Open.{Open}
use Rattle.register_loss.specs.declared.Turn.TheVariants.{Acts, Fails as FailsTurn}
use Rattle.register_loss.specs.Schedules.{Register, Turns, change_of, is_other, is_same, is_write, marked, settled}
use Rattle.history_loss_sights.specs.Sights.{syncs}
use Rattle.history_loss_sights.proofs.Coding.{coded_change, one_map}
use Rattle.history_loss_sights.proofs.Standing.{Called, HasFailed, HasSync, IsKnown, IsSynced, IsTidy, IsTold, Nobody, and_false, differ_false, in_filter, not_of, not_true, of_filter, of_map, sync_parts, told_settled, write_of}

module _ (code : List ℕ → ℕ) (rules : Rules) (i : ℕ) where
  -- A WRITE TAKES EFFECT

  abbrev Of : ℕ → ℕ → Type 0
  Of n m = m ≡ n

  pub record Acted (past : List Event) (h : Held) (lines : List Line) (r : Register) (n : ℕ) (change : Change) : Type 0 where
    pub register : Register
    pub turns : Turns Acts r register
    pub told : IsTold code rules i (Of n) past (changed (next_number past) change h) lines register

  abbrev put_by : Bool → List ℕ → Change
  put_by through v = if through then Secures v else Puts v

  coded_put : (through : Bool) (v : List ℕ) → (if through then Secures (code v) else Puts (code v)) ≡ coded_change code (put_by through v)
  coded_put true v = refl
  coded_put false v = refl

  pub acts : (past : List Event) (h : Held) (lines : List Line) (r : Register) → IsTold code rules i (Nobody code rules i) past h lines r → (n : ℕ) (q : ClientRequest) (place : ℕ)
      → IsOneOf (write_of code rules i n q place) r.waits → Acted past h lines r n (put_by q.through (value_for rules q place))
  acts past h lines r t n q place has = record {
    register = settled r.next (changed r.next (coded_change code change) r.held) left;
    turns = record { of = of; waits = has; change = coded_change code change; may = ap Some (coded_put q.through (value_for rules q place)); after = refl };
    told = told_settled code rules i (Nobody code rules i) (Of n) past h lines r left change t writes syncs' known away;
  }
    where
      of : Open
      of = write_of code rules i n q place

      change : Change
      change = put_by q.through (value_for rules q place)

      left : List Open
      left = filter (is_other of) r.waits

      stays : (o : Open) → is_same of o ≡ false → IsOneOf o r.waits → IsOneOf o left
      stays o other there = in_filter (is_other of) o r.waits there (not_of (is_same of o) other)

      writes : (m : ℕ) (p : ClientRequest) (k : ℕ) → Called past m p → p.kind ≡ Write → IsAt rules i p k → All (IsNoAnswer m) past → All (IsNoEffect m) past → All (IsNoFailure m k) past → (m ≡ n → ⊥)
          → IsOneOf (write_of code rules i m p k) left
      writes m p k call kind at awaits none sound out = stays (write_of code rules i m p k) (rw (differ_false m n out) refl) (t.writes m p k call kind at awaits none sound (λ x. x))

      syncs' : (m : ℕ) (p : ClientRequest) (what : What) → Called past m p → IsOneOf what (syncs p.through p.kind) → All (IsNoAnswer m) past → HasSync code rules i m what left
      syncs' m p what call sync awaits = by (t.syncs m p what call sync awaits)
        where
          by : HasSync code rules i m what r.waits → HasSync code rules i m what left
          by (failed, there) = (failed, stays (record { number = m; what = what; failed = failed }) (and_false (m == n) (is_write what) (sync_parts p.through p.kind what sync).0) there)

      known : (o : Open) → IsOneOf o left → IsKnown code rules i past lines o.number o.failed o.what
      known o there = t.known o (of_filter (is_other of) o r.waits there).0

      away : (o : Open) → IsOneOf o left → is_write o.what ≡ true → o.number ≡ n → ⊥
      away o there write same =
          let other : is_same of o ≡ false = not_true (is_same of o) (of_filter (is_other of) o r.waits there).1 in
          let mine : is_same of o ≡ true = and_from (o.number == n) (is_write o.what) (eq-eqb o.number n same) write in
          cc (other, mine)

  -- AN OPERATION FAILS

  pub record Faulted (past : List Event) (h : Held) (lines : List Line) (r : Register) (change : Change) : Type 0 where
    pub register : Register
    pub turns : Turns FailsTurn r register
    pub told : IsTold code rules i (Nobody code rules i) past (changed (next_number past) change h) lines register

  abbrev marked_by : Bool → Open → Open
  marked_by b o = if b then record o { failed = true } else o

  unmarked : (of o : Open) → is_same of o ≡ false → o ≡ marked of o
  unmarked of o e = ap (λ b. marked_by b o) (sym e)

  marked_known : (past : List Event) (lines : List Line) (o : Open) (b : Bool) → (b ≡ true → IsKnown code rules i past lines o.number true o.what) → IsKnown code rules i past lines o.number o.failed o.what
      → IsKnown code rules i past lines (marked_by b o).number (marked_by b o).failed (marked_by b o).what
  marked_known past lines o true mine k = mine refl
  marked_known past lines o false mine k = k

  marked_sync : (n : ℕ) (what : What) (waits : List Open) (failed b : Bool) → IsOneOf (marked_by b (record { number = n; what = what; failed = failed })) waits → HasSync code rules i n what waits
  marked_sync n what waits failed true h = (true, h)
  marked_sync n what waits failed false h = (failed, h)

  fails : (past : List Event) (h : Held) (lines : List Line) (r : Register) → IsTold code rules i (Nobody code rules i) past h lines r → (of : Open) (change : Change) → IsOneOf of r.waits
      → change_of FailsTurn of ≡ Some (coded_change code change)
      → ((m : ℕ) (p : ClientRequest) (k : ℕ) → Called past m p → p.kind ≡ Write → IsAt rules i p k → All (IsNoFailure m k) past → is_same of (write_of code rules i m p k) ≡ false)
      → ((o : Open) → IsOneOf o r.waits → is_same of o ≡ true → IsKnown code rules i past lines o.number true o.what) → Faulted past h lines r change
  fails past h lines r t of change has may apart mine = record {
    register = settled r.next (changed r.next (coded_change code change) r.held) left;
    turns = record { of = of; waits = has; change = coded_change code change; may = may; after = refl };
    told = told_settled code rules i (Nobody code rules i) (Nobody code rules i) past h lines r left change t writes syncs' known (λ o there write x. x);
  }
    where
      left : List Open
      left = map (marked of) r.waits

      writes : (m : ℕ) (p : ClientRequest) (k : ℕ) → Called past m p → p.kind ≡ Write → IsAt rules i p k → All (IsNoAnswer m) past → All (IsNoEffect m) past → All (IsNoFailure m k) past → (⊥ → ⊥)
          → IsOneOf (write_of code rules i m p k) left
      writes m p k call kind at awaits none sound out =
          subst (λ o. IsOneOf o left) (sym (unmarked of (write_of code rules i m p k) (apart m p k call kind at sound)))
          (one_map (marked of) (write_of code rules i m p k) r.waits (t.writes m p k call kind at awaits none sound (λ x. x)))

      syncs' : (m : ℕ) (p : ClientRequest) (what : What) → Called past m p → IsOneOf what (syncs p.through p.kind) → All (IsNoAnswer m) past → HasSync code rules i m what left
      syncs' m p what call sync awaits = by (t.syncs m p what call sync awaits)
        where
          by : HasSync code rules i m what r.waits → HasSync code rules i m what left
          by (failed, there) =
              marked_sync m what left failed (is_same of (record { number = m; what = what; failed = failed })) (one_map (marked of) (record { number = m; what = what; failed = failed }) r.waits there)

      known : (o : Open) → IsOneOf o left → IsKnown code rules i past lines o.number o.failed o.what
      known o there =
          let was : (x : Open) × IsOneOf x r.waits × (o ≡ marked of x) = of_map (marked of) o r.waits there in
          subst (λ (y : Open). IsKnown code rules i past lines y.number y.failed y.what) (sym was.2) (marked_known past lines was.0 (is_same of was.0) (mine was.0 was.1) (t.known was.0 was.1))

  -- a write may have left its value
  pub tries : (past : List Event) (h : Held) (lines : List Line) (r : Register) → IsTold code rules i (Nobody code rules i) past h lines r → (n : ℕ) (q : ClientRequest) (place : ℕ)
      → IsOneOf (write_of code rules i n q place) r.waits → ((m : ℕ) (p : ClientRequest) (k : ℕ) → Called past m p → IsAt rules i p k → All (IsNoFailure m k) past → m ≡ n → ⊥)
      → Faulted past h lines r (Tries (value_for rules q place))
  tries past h lines r t n q place has apart =
      fails past h lines r t (write_of code rules i n q place) (Tries (value_for rules q place)) has refl
      (λ m p k call kind at sound. rw (differ_false m n (apart m p k call at sound)) refl)
      (λ o there same. of_write o.what o.number o.failed (and_parts (o.number == n) (is_write o.what) same).1 (t.known o there))
    where
      of_write : (what : What) (m : ℕ) (failed : Bool) → is_write what ≡ true → IsKnown code rules i past lines m failed what → IsKnown code rules i past lines m true what
      of_write (Writes v through) m failed e k = k
      of_write (Reads v) m failed e k = k
      of_write Flushes m failed e k = absurd (cc (e))
      of_write Sync m failed e k = absurd (cc (e))

  sync_may : (through : Bool) (kind : Kind) (what : What) (n : ℕ) (failed : Bool) → IsOneOf what (syncs through kind) → change_of FailsTurn (record { number = n; what = what; failed = failed }) ≡ Some Doubts
  sync_may through Read what n failed h = absurd h
  sync_may true Write what n failed (inl e) = subst (λ w. change_of FailsTurn (record { number = n; what = w; failed = failed }) ≡ Some Doubts) (sym e) refl
  sync_may true Write what n failed (inr none) = absurd none
  sync_may false Write what n failed h = absurd h
  sync_may through Flush what n failed (inl e) = subst (λ w. change_of FailsTurn (record { number = n; what = w; failed = failed }) ≡ Some Doubts) (sym e) refl
  sync_may through Flush what n failed (inr none) = absurd none

  -- a sync leaves any older value
  pub doubts : (past : List Event) (h : Held) (lines : List Line) (r : Register) → IsTold code rules i (Nobody code rules i) past h lines r → IsTidy past → (n : ℕ) (q : ClientRequest) (what : What)
      → Called past n q → IsOneOf what (syncs q.through q.kind) → HasFailed code rules i past n q → HasSync code rules i n what r.waits → Faulted past h lines r Doubts
  doubts past h lines r t tidy n q what call sync failing (failed, has) =
      fails past h lines r t (record { number = n; what = what; failed = failed }) Doubts has (sync_may q.through q.kind what n failed sync)
      (λ m p k c kind at sound. by_write m)
      (λ o there same. of_sync o there (and_parts (o.number == n) _ same).0 o.what refl)
    where
      by_write : (m : ℕ) → ((m == n) && (if is_write what then true else false)) ≡ false
      by_write m = and_false (m == n) (if is_write what then true else false) (ap (λ b. if b then true else false) (sync_parts q.through q.kind what sync).0)

      failing_too : (o : Open) → (w : What) → IsSynced code rules i past o.number o.failed w → (o.number == n) ≡ true → IsSynced code rules i past o.number true w
      failing_too o w k same =
          let number : o.number ≡ n = eqb-true o.number n same in
          let request : q ≡ k.request = tidy.one o.number q k.request (subst (λ m. Called past m q) (sym number) call) k.called in
          record {
            request = k.request;
            called = k.called;
            sync = k.sync;
            failing = λ f. subst (λ m. HasFailed code rules i past m k.request) (sym number) (subst (λ x. HasFailed code rules i past n x) request failing);
          }

      of_sync : (o : Open) → IsOneOf o r.waits → (o.number == n) ≡ true → (w : What) → o.what ≡ w → IsKnown code rules i past lines o.number true o.what
      of_sync o there same w e = subst (λ x. IsKnown code rules i past lines o.number true x) (sym e) (by w (subst (λ x. IsKnown code rules i past lines o.number o.failed x) e (t.known o there)))
        where
          by : (w : What) → IsKnown code rules i past lines o.number o.failed w → IsKnown code rules i past lines o.number true w
          by (Writes v through) k = k
          by (Reads v) k = k
          by Flushes k = failing_too o Flushes k same
          by Sync k = failing_too o Sync k same
