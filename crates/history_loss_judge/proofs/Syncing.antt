-- What all sectors see of a session.
use Rattle.std.proofs.Common.{◌≡◌, ◌<◌, ◌≤◌, inl, inr, ℕ, zero, suc, ◌+◌, ◌==◌, ◌||◌, Bool, true, false, List, [], ◌∷◌, ◌++◌, Option, Some, None, refl, sym, ◌∙◌, ap, subst, arith, eq-eqb, get_or, length, length-append, map, set, append_assoc, append-nil, is_some}
use Rattle.std.specs.Prelude.{if◌then◌else◌}
use Rattle.std.specs.List.{list_any}
use Rattle.ntstatus.specs.declared.NtStatus.{NtStatus}
use Rattle.srb.specs.declared.Kind.{Kind}
use Rattle.srb.specs.declared.Kind.TheVariants.{Read, Write, Flush}
use Rattle.machine.specs.declared.ClientRequest.{ClientRequest}
use Rattle.machine.specs.declared.Label.{Label}
use Rattle.machine.specs.declared.Label.TheVariants.{Call, Device, Answer, Cancel, Pause, Resume, Remove, Surprise, Removed}
use Rattle.machine.specs.Rules.{Rules}
use Rattle.history_laws.specs.declared.Asked.{Asked}
use Rattle.history_laws.specs.Fitting.{refused}
use Rattle.history_loss_kept.specs.declared.Outcome.TheVariants.{Open}
use Rattle.history_loss_kept.specs.declared.Shared.{Shared}
use Rattle.history_loss_kept.specs.declared.Shared.TheVariants.{Call as SharedCall, End}
use Rattle.history_loss_kept.specs.Kept.{call_of, is_success, is_sync_of, outcome_of, settled, shared_after}
use Rattle.history_loss_sector.specs.declared.merging.SharedAt.{SharedAt}
use Rattle.history_loss_sector.specs.Seen.{shared_in}
use Rattle.history_fitting.specs.declared.fitting.Known.{Known}
use Rattle.history_fitting.specs.Opened.{AreOpen, IsFresh, PutsCall, PutsAnswer, Takes, first_fresh, may_come, may_end}
use Rattle.history_fitting.proofs.Opening.{call_is_next}
use Rattle.history_loss_judge.specs.declared.syncs.Syncs.{Syncs}
use Rattle.history_loss_judge.specs.inside.Syncs.{BeginsBy, FinishesBy, IsCallAt, IsFound, IsIndexed, PutsSync, TakesAnswer, TakesCall, index_of, sync_kind}
use Rattle.history_loss_judge.specs.inside.Histories.{AreFound, IsFoundAt}
use Rattle.history_loss_judge.specs.inside.Telling.{shared_called}
use Rattle.history_loss_judge.proofs.Keeping.{shared_behind}
use Rattle.history_loss_judge.proofs.Quiet.{alike, apart, answer_fresh, fresh_answer, fresh_call, none_owed}

-- LISTS

pub length_in : (xs : List SharedAt) → length (shared_in xs) ≡ length xs
length_in [] = refl
length_in (x ∷ xs) = ap suc (length_in xs)

pub shared_append : (xs ys : List SharedAt) → shared_in (xs ++ ys) ≡ shared_in xs ++ shared_in ys
shared_append [] ys = refl
shared_append (x ∷ xs) ys = ap (λ zs. x.shared ∷ zs) (shared_append xs ys)

shared_set : (xs : List SharedAt) (at : ℕ) (x : SharedAt) → shared_in (set xs at x) ≡ set (shared_in xs) at x.shared
shared_set [] at x = refl
shared_set (y ∷ xs) zero x = refl
shared_set (y ∷ xs) (suc at) x = ap (λ zs. y.shared ∷ zs) (shared_set xs at x)

shared_get : (xs : List SharedAt) (at : ℕ) (d : SharedAt) → (get_or xs at d).shared ≡ get_or (shared_in xs) at d.shared
shared_get [] at d = refl
shared_get (y ∷ xs) zero d = refl
shared_get (y ∷ xs) (suc at) d = shared_get xs at d

set_at : (before : List Shared) (c y : Shared) (after : List Shared) → set (before ++ c ∷ after) (length before) y ≡ before ++ y ∷ after
set_at [] c y after = refl
set_at (x ∷ before) c y after = ap (λ zs. x ∷ zs) (set_at before c y after)

get_at : (before : List Shared) (c d : Shared) (after : List Shared) → get_or (before ++ c ∷ after) (length before) d ≡ c
get_at [] c d after = refl
get_at (x ∷ before) c d after = get_at before c d after

or_first : (a b : Bool) → (a || b) ≡ false → a ≡ false
or_first true b h = h
or_first false b h = refl

or_rest : (a b : Bool) → (a || b) ≡ false → b ≡ false
or_rest true b h = absurd (cc (h))
or_rest false b h = h

or_both : (a b : Bool) → a ≡ false → b ≡ false → (a || b) ≡ false
or_both true b e f = e
or_both false b e f = f

or_true : (a : Bool) → (a || true) ≡ true
or_true true = refl
or_true false = refl

same_number : (n : ℕ) → (n == n) ≡ true
same_number n = eq-eqb n n refl

none_both : (f : Shared → Bool) (xs ys : List Shared) → list_any f xs ≡ false → list_any f ys ≡ false → list_any f (xs ++ ys) ≡ false
none_both f [] ys e g = g
none_both f (x ∷ xs) ys e g = or_both (f x) (list_any f (xs ++ ys)) (or_first (f x) (list_any f xs) e) (none_both f xs ys (or_rest (f x) (list_any f xs) e) g)

any_at : (f : Shared → Bool) (before : List Shared) (c : Shared) (after : List Shared) → f c ≡ true → list_any f (before ++ c ∷ after) ≡ true
any_at f [] c after h = ap (λ b. b || list_any f after) h
any_at f (x ∷ before) c after h = ap (λ b. f x || b) (any_at f before c after h) ∙ or_true (f x)

-- ANSWERS

-- what isn't the call of this number stays
settled_none : (n : ℕ) (status : NtStatus) (xs : List Shared) → list_any (is_sync_of n) xs ≡ false → map (settled n status) xs ≡ xs
settled_none n status [] h = refl
settled_none n status (SharedCall number is_flush outcome ∷ xs) h =
    ap (λ t. (if t then SharedCall number is_flush (outcome_of status) else SharedCall number is_flush outcome) ∷ map (settled n status) xs) (or_first (number == n) (list_any (is_sync_of n) xs) h)
    ∙ ap (λ zs. SharedCall number is_flush outcome ∷ zs) (settled_none n status xs (or_rest (number == n) (list_any (is_sync_of n) xs) h))
settled_none n status (End number ends ∷ xs) h = ap (λ zs. End number ends ∷ zs) (settled_none n status xs h)

settled_at : (n : ℕ) (status : NtStatus) (before after : List Shared) (c : Shared) → list_any (is_sync_of n) before ≡ false → list_any (is_sync_of n) after ≡ false
    → map (settled n status) (before ++ c ∷ after) ≡ before ++ settled n status c ∷ after
settled_at n status [] after c e g = ap (λ zs. settled n status c ∷ zs) (settled_none n status after g)
settled_at n status (SharedCall number is_flush outcome ∷ before) after c e g =
    ap (λ t. (if t then SharedCall number is_flush (outcome_of status) else SharedCall number is_flush outcome) ∷ map (settled n status) (before ++ c ∷ after)) (or_first (number == n) (list_any (is_sync_of n) before) e)
    ∙ ap (λ zs. SharedCall number is_flush outcome ∷ zs) (settled_at n status before after c (or_rest (number == n) (list_any (is_sync_of n) before) e) g)
settled_at n status (End number ends ∷ before) after c e g = ap (λ zs. End number ends ∷ zs) (settled_at n status before after c e g)

after_at : (n : ℕ) (status : NtStatus) (shared : List Shared) (at : ℕ) (h : IsCallAt shared n at) → shared_after n status shared ≡ h.before ++ settled n status (SharedCall n h.is_flush Open) ∷ (h.after ++ End n (is_success status) ∷ [])
after_at n status shared at h =
    ap (λ xs. if list_any (is_sync_of n) xs then map (settled n status) xs ++ End n (is_success status) ∷ [] else xs) h.is
    ∙ ap (λ t. if t then map (settled n status) (h.before ++ SharedCall n h.is_flush Open ∷ h.after) ++ End n (is_success status) ∷ [] else (h.before ++ SharedCall n h.is_flush Open ∷ h.after))
    (any_at (is_sync_of n) h.before (SharedCall n h.is_flush Open) h.after (same_number n))
    ∙ ap (λ xs. xs ++ End n (is_success status) ∷ []) (settled_at n status h.before h.after (SharedCall n h.is_flush Open) h.none_before h.none_after)
    ∙ append_assoc h.before (settled n status (SharedCall n h.is_flush Open) ∷ h.after) (End n (is_success status) ∷ [])

pub at_low : (xs : List SharedAt) (n at : ℕ) → IsCallAt (shared_in xs) n at → at < length xs
at_low xs n at h =
    let e : length (shared_in xs) ≡ length h.before + suc (length h.after) = ap length h.is ∙ length-append h.before (SharedCall n h.is_flush Open ∷ h.after) in
    let f : length (shared_in xs) ≡ length xs = length_in xs in
    let g : length h.before ≡ at = h.count in
    omega (arith, e, f, g)

pub answered_at : (xs ys : List SharedAt) (n : ℕ) (status : NtStatus) (at : ℕ) (d x last : SharedAt) → IsCallAt (shared_in xs) n at → x.shared ≡ settled n status (get_or xs at d).shared → last.shared ≡ End n (is_success status)
    → ys ≡ set xs at x ++ last ∷ [] → shared_in ys ≡ shared_after n status (shared_in xs)
answered_at xs ys n status at d x last h puts ends is =
    ap shared_in is ∙ shared_append (set xs at x) (last ∷ [])
    ∙ ap (λ zs. zs ++ last.shared ∷ []) (shared_set xs at x)
    ∙ ap (λ e. set (shared_in xs) at x.shared ++ e ∷ []) ends
    ∙ ap (λ zs. set zs at x.shared ++ End n (is_success status) ∷ []) h.is
    ∙ ap (λ k. set (h.before ++ SharedCall n h.is_flush Open ∷ h.after) k x.shared ++ End n (is_success status) ∷ []) (sym h.count)
    ∙ ap (λ zs. zs ++ End n (is_success status) ∷ []) (set_at h.before (SharedCall n h.is_flush Open) x.shared h.after)
    ∙ append_assoc h.before (x.shared ∷ h.after) (End n (is_success status) ∷ [])
    ∙ ap (λ c. h.before ++ c ∷ (h.after ++ End n (is_success status) ∷ [])) (puts ∙ ap (settled n status) found)
    ∙ sym (after_at n status (shared_in xs) at h)
  where
    found : (get_or xs at d).shared ≡ SharedCall n h.is_flush Open
    found = shared_get xs at d ∙ ap (λ zs. get_or zs at d.shared) h.is ∙ ap (λ k. get_or (h.before ++ SharedCall n h.is_flush Open ∷ h.after) k d.shared) (sym h.count)
        ∙ get_at h.before (SharedCall n h.is_flush Open) d.shared h.after

pub no_index : (places : List Shared) (n : ℕ) → list_any (is_sync_of n) places ≡ false → (status : NtStatus) → places ≡ shared_after n status places
no_index places n none status = sym (ap (λ t. if t then map (settled n status) places ++ End n (is_success status) ∷ [] else places) none)

-- OTHER NUMBERS

other_call : (n m : ℕ) (is_flush : Bool) → (n ≡ m → ⊥) → is_sync_of m (SharedCall n is_flush Open) ≡ false
other_call n m is_flush differ = apart n m differ

-- one more behind
call_pushed : (xs : List Shared) (m at : ℕ) (x : Shared) → is_sync_of m x ≡ false → IsCallAt xs m at → IsCallAt (xs ++ x ∷ []) m at
call_pushed xs m at x none h = record {
  before = h.before;
  is_flush = h.is_flush;
  after = h.after ++ x ∷ [];
  is = ap (λ zs. zs ++ x ∷ []) h.is ∙ append_assoc h.before (SharedCall m h.is_flush Open ∷ h.after) (x ∷ []);
  count = h.count;
  none_before = h.none_before;
  none_after = none_both (is_sync_of m) h.after (x ∷ []) h.none_after (or_both (is_sync_of m x) false none refl);
}

settled_other : (n m : ℕ) (status : NtStatus) (x : Shared) → is_sync_of m (settled n status x) ≡ is_sync_of m x
settled_other n m status (SharedCall number is_flush outcome) = by (number == n)
  where
    by : (t : Bool) → is_sync_of m (if t then SharedCall number is_flush (outcome_of status) else SharedCall number is_flush outcome) ≡ (number == m)
    by true = refl
    by false = refl
settled_other n m status (End number ends) = refl

any_settled : (n m : ℕ) (status : NtStatus) (xs : List Shared) → list_any (is_sync_of m) (map (settled n status) xs) ≡ list_any (is_sync_of m) xs
any_settled n m status [] = refl
any_settled n m status (x ∷ xs) = ap (λ b. b || list_any (is_sync_of m) (map (settled n status) xs)) (settled_other n m status x) ∙ ap (λ b. is_sync_of m x || b) (any_settled n m status xs)

map_append : (f : Shared → Shared) (xs ys : List Shared) → map f (xs ++ ys) ≡ map f xs ++ map f ys
map_append f [] ys = refl
map_append f (x ∷ xs) ys = ap (λ zs. f x ∷ zs) (map_append f xs ys)

map_length : (f : Shared → Shared) (xs : List Shared) → length (map f xs) ≡ length xs
map_length f [] = refl
map_length f (x ∷ xs) = ap suc (map_length f xs)

call_settled : (n m : ℕ) (status : NtStatus) (is_flush : Bool) → (n ≡ m → ⊥) → settled n status (SharedCall m is_flush Open) ≡ SharedCall m is_flush Open
call_settled n m status is_flush differ = ap (λ t. if t then SharedCall m is_flush (outcome_of status) else SharedCall m is_flush Open) (apart m n (λ same. differ (sym same)))

index_settled : (n m : ℕ) (status : NtStatus) (xs : List Shared) (at : ℕ) → (n ≡ m → ⊥) → IsCallAt xs m at → IsCallAt (map (settled n status) xs) m at
index_settled n m status xs at differ h = record {
  before = map (settled n status) h.before;
  is_flush = h.is_flush;
  after = map (settled n status) h.after;
  is = ap (map (settled n status)) h.is ∙ map_append (settled n status) h.before (SharedCall m h.is_flush Open ∷ h.after)
      ∙ ap (λ c. map (settled n status) h.before ++ c ∷ map (settled n status) h.after) (call_settled n m status h.is_flush differ);
  count = map_length (settled n status) h.before ∙ h.count;
  none_before = any_settled n m status h.before ∙ h.none_before;
  none_after = any_settled n m status h.after ∙ h.none_after;
}

index_after : (n m : ℕ) (status : NtStatus) (xs : List Shared) (at : ℕ) → (n ≡ m → ⊥) → IsCallAt xs m at → IsCallAt (shared_after n status xs) m at
index_after n m status xs at differ h = by (list_any (is_sync_of n) xs)
  where
    by : (t : Bool) → IsCallAt (if t then map (settled n status) xs ++ End n (is_success status) ∷ [] else xs) m at
    by true = call_pushed (map (settled n status) xs) m at (End n (is_success status)) refl (index_settled n m status xs at differ h)
    by false = h

none_after : (n m : ℕ) (status : NtStatus) (xs : List Shared) → list_any (is_sync_of m) xs ≡ false → list_any (is_sync_of m) (shared_after n status xs) ≡ false
none_after n m status xs h = by (list_any (is_sync_of n) xs)
  where
    by : (t : Bool) → list_any (is_sync_of m) (if t then map (settled n status) xs ++ End n (is_success status) ∷ [] else xs) ≡ false
    by true = none_both (is_sync_of m) (map (settled n status) xs) (End n (is_success status) ∷ []) (any_settled n m status xs ∙ h) refl
    by false = h

-- WHAT ALL SECTORS SEE, ONE LABEL MORE

kind_is : (n : ℕ) (kind : Kind) (through : Bool) (old new : Syncs) → TakesCall n (sync_kind kind through) old new → shared_in new.shared.items ≡ shared_in old.shared.items ++ call_of n kind through
kind_is n Read through old new h = ap (λ (s : Syncs). shared_in s.shared.items) h ∙ sym (append-nil (shared_in old.shared.items))
kind_is n Write true old new h = h.shared
kind_is n Write false old new h = ap (λ (s : Syncs). shared_in s.shared.items) h ∙ sym (append-nil (shared_in old.shared.items))
kind_is n Flush through old new h = h.shared

pub begun_is : (label : Label) (old mid : Syncs) → BeginsBy label old mid → shared_in mid.shared.items ≡ shared_called label (shared_in old.shared.items)
begun_is (Call n q) old mid h = kind_is n q.kind q.through old mid h
begun_is (Answer n status informed bytes) old mid h = ap (λ (s : Syncs). shared_in s.shared.items) h
begun_is (Device label) old mid h = ap (λ (s : Syncs). shared_in s.shared.items) h
begun_is (Cancel n) old mid h = ap (λ (s : Syncs). shared_in s.shared.items) h
begun_is Pause old mid h = ap (λ (s : Syncs). shared_in s.shared.items) h
begun_is Resume old mid h = ap (λ (s : Syncs). shared_in s.shared.items) h
begun_is Remove old mid h = ap (λ (s : Syncs). shared_in s.shared.items) h
begun_is Surprise old mid h = ap (λ (s : Syncs). shared_in s.shared.items) h
begun_is Removed old mid h = ap (λ (s : Syncs). shared_in s.shared.items) h

-- none of a number that is fresh and isn't found
none_found : (known : Known) (syncs : Syncs) (f : AreFound known syncs) (n : ℕ) → IsFresh known n → (found : Option ℕ) → index_of syncs.calls n ≡ found → found ≡ None → list_any (is_sync_of n) (shared_in syncs.shared.items) ≡ false
none_found known syncs f n fresh found is none = subst (IsFoundAt (shared_in syncs.shared.items) n) (is ∙ none) (f.found n fresh)

-- whether it is seen by all is told by its place
pub sync_is : (known : Known) (syncs : Syncs) → AreFound known syncs → (n : ℕ) → IsFresh known n → (is_sync : Bool) → is_sync ≡ is_some (index_of syncs.calls n) → list_any (is_sync_of n) (shared_in syncs.shared.items) ≡ is_sync
sync_is known syncs f n fresh is_sync is = by (index_of syncs.calls n) refl ∙ sym is
  where
    by : (found : Option ℕ) → index_of syncs.calls n ≡ found → list_any (is_sync_of n) (shared_in syncs.shared.items) ≡ is_some found
    by None e = none_found known syncs f n fresh None e refl
    by (Some at) e =
        let h : IsCallAt (shared_in syncs.shared.items) n at = subst (IsIndexed syncs.shared.items n) e (f.indexed n) in
        ap (list_any (is_sync_of n)) h.is ∙ any_at (is_sync_of n) h.before (SharedCall n h.is_flush Open) h.after (same_number n)

index_by : (old new : Syncs) (m : ℕ) (found : Option ℕ) → index_of old.calls m ≡ found → index_of new.calls m ≡ index_of old.calls m
    → ((at : ℕ) → IsCallAt (shared_in old.shared.items) m at → IsCallAt (shared_in new.shared.items) m at) → IsIndexed old.shared.items m found → IsIndexed new.shared.items m (index_of new.calls m)
index_by old new m None is same more h = subst (IsIndexed new.shared.items m) (sym (same ∙ is)) tt
index_by old new m (Some at) is same more h = subst (IsIndexed new.shared.items m) (sym (same ∙ is)) (more at h)

found_by : (old new : Syncs) (m : ℕ) (found : Option ℕ) → index_of old.calls m ≡ found → index_of new.calls m ≡ index_of old.calls m
    → (list_any (is_sync_of m) (shared_in old.shared.items) ≡ false → list_any (is_sync_of m) (shared_in new.shared.items) ≡ false) → IsFoundAt (shared_in old.shared.items) m found
    → IsFoundAt (shared_in new.shared.items) m (index_of new.calls m)
found_by old new m None is same more h = subst (IsFoundAt (shared_in new.shared.items) m) (sym (same ∙ is)) (more h)
found_by old new m (Some at) is same more h = subst (IsFoundAt (shared_in new.shared.items) m) (sym (same ∙ is)) tt

module _ (rules : Rules) (asked : List (Option Asked)) (old new : Known) (a : AreOpen asked old) (was : Syncs) (f : AreFound old was) where
  -- a call of what all sectors see
  found_put : (n : ℕ) (q : ClientRequest) (is_flush : Bool) (now : Syncs) → n ≡ old.calls + 1 → old.owed ≡ None → new.calls ≡ n → new.owed ≡ refused rules q → PutsCall (refused rules q) old.opened n q new.opened → PutsSync n is_flush was now → AreFound new now
  found_put n q is_flush now next none calls owed puts h = record {
    closed = λ m high. h.others m (λ same. absurd (omega (arith, same, high, calls))) ∙ f.closed m (omega (arith, high, calls, next));
    indexed = λ m. elim (alike m n) [
      | inl same ↦ subst (λ k. IsIndexed now.shared.items k (index_of now.calls k)) (sym same) (subst (IsIndexed now.shared.items n) (sym h.here) here)
      | inr differ ↦
          index_by was now m (index_of was.calls m) refl (h.others m differ)
          (λ at c. subst (λ xs. IsCallAt xs m at) (sym h.shared) (call_pushed (shared_in was.shared.items) m at (SharedCall n is_flush Open) (other_call n m is_flush (λ same. differ (sym same))) c)) (f.indexed m)
    ];
    found = λ m fresh. elim (alike m n) [
      | inl same ↦ subst (λ k. IsFoundAt (shared_in now.shared.items) k (index_of now.calls k)) (sym same) (subst (IsFoundAt (shared_in now.shared.items) n) (sym h.here) tt)
      | inr differ ↦
          found_by was now m (index_of was.calls m) refl (h.others m differ)
          (λ e. ap (list_any (is_sync_of m)) h.shared
          ∙ none_both (is_sync_of m) (shared_in was.shared.items) (SharedCall n is_flush Open ∷ []) e (or_both (n == m) false (other_call n m is_flush (λ same. differ (sym same))) refl))
          (f.found m (fresh_call rules old new n q (refused rules q) next none calls owed puts m fresh))
    ];
  }
    where
      none_yet : list_any (is_sync_of n) (shared_in was.shared.items) ≡ false
      none_yet =
          none_found old was f n (λ e. subst (λ o. first_fresh o old.calls ≤ n) (sym none) (omega (arith, next))) (index_of was.calls n) refl (f.closed n (omega (arith, next)))

      here : IsCallAt (shared_in now.shared.items) n (length (shared_in was.shared.items))
      here = record { before = shared_in was.shared.items; is_flush = is_flush; after = []; is = h.shared; count = refl; none_before = none_yet; none_after = refl }

  -- a call of what they don't
  found_call : (n : ℕ) (q : ClientRequest) (kind : Option Bool) (now : Syncs) → n ≡ old.calls + 1 → old.owed ≡ None → new.calls ≡ n → new.owed ≡ refused rules q → PutsCall (refused rules q) old.opened n q new.opened → TakesCall n kind was now → AreFound new now
  found_call n q (Some is_flush) now next none calls owed puts h = found_put n q is_flush now next none calls owed puts h
  found_call n q None now next none calls owed puts h = subst (AreFound new) (sym h) (record {
    closed = λ m high. f.closed m (omega (arith, high, calls, next));
    indexed = f.indexed;
    found = λ m fresh. f.found m (fresh_call rules old new n q (refused rules q) next none calls owed puts m fresh);
  })

  found_answer : (n : ℕ) (status : NtStatus) (informed : ℕ) (bytes : List ℕ) (place : Option ℕ) (now : Syncs) → may_end old old.owed n status informed (length bytes) ≡ true → new.calls ≡ old.calls → new.owed ≡ None
      → PutsAnswer old.owed old.opened n new.opened → TakesAnswer n status place was now → AreFound new now
  found_answer n status informed bytes None now can calls none puts h = record {
    closed = λ m high. h.1 m ∙ f.closed m (omega (arith, high, calls));
    indexed = λ m. index_by was now m (index_of was.calls m) refl (h.1 m) (λ at c. subst (λ xs. IsCallAt (shared_in xs.items) m at) (sym h.0) c) (f.indexed m);
    found = λ m fresh.
        found_by was now m (index_of was.calls m) refl (h.1 m) (λ e. ap (λ xs. list_any (is_sync_of m) (shared_in xs.items)) h.0 ∙ e)
        (f.found m (fresh_answer asked old new a n status informed (length bytes) old.owed refl can calls none puts m fresh).1);
  }
  found_answer n status informed bytes (Some place) now can calls none puts h = record {
    closed = λ m high. elim (alike m n) [
      | inl same ↦ ap (index_of now.calls) same ∙ h.here
      | inr differ ↦ h.others m differ ∙ f.closed m (omega (arith, high, calls))
    ];
    indexed = λ m. elim (alike m n) [
      | inl same ↦ subst (λ k. IsIndexed now.shared.items k (index_of now.calls k)) (sym same) (subst (IsIndexed now.shared.items n) (sym h.here) tt)
      | inr differ ↦
          index_by was now m (index_of was.calls m) refl (h.others m differ)
          (λ at c. subst (λ xs. IsCallAt xs m at) (sym h.shared) (index_after n m status (shared_in was.shared.items) at (λ same. differ (sym same)) c)) (f.indexed m)
    ];
    found = λ m fresh.
        let g = fresh_answer asked old new a n status informed (length bytes) old.owed refl can calls none puts m fresh in
        found_by was now m (index_of was.calls m) refl (h.others m (λ same. g.0 (sym same))) (λ e. ap (list_any (is_sync_of m)) h.shared ∙ none_after n m status (shared_in was.shared.items) e) (f.found m g.1);
  }

  pub found_next : (label : Label) (mid now : Syncs) → may_come rules old label ≡ true → Takes rules old label new → BeginsBy label was mid → FinishesBy label mid now → AreFound new now
  found_next (Call n q) mid now can takes begins ends =
      subst (AreFound new) (sym ends) (found_call n q (sync_kind q.kind q.through) mid (call_is_next rules old n q can) (none_owed rules old n q can) takes.0 takes.1 takes.2 begins)
  found_next (Answer n status informed bytes) mid now can takes begins ends =
      found_answer n status informed bytes (index_of was.calls n) now can takes.0 takes.1 takes.2 (subst (λ (s : Syncs). TakesAnswer n status (index_of s.calls n) s now) begins ends)
  found_next (Device label) mid now can is begins ends = subst (λ k. AreFound k now) (sym is) (subst (AreFound old) (sym (ends ∙ begins)) f)
  found_next (Cancel n) mid now can is begins ends = subst (λ k. AreFound k now) (sym is) (subst (AreFound old) (sym (ends ∙ begins)) f)
  found_next Pause mid now can is begins ends = subst (λ k. AreFound k now) (sym is) (subst (AreFound old) (sym (ends ∙ begins)) f)
  found_next Resume mid now can is begins ends = subst (λ k. AreFound k now) (sym is) (subst (AreFound old) (sym (ends ∙ begins)) f)
  found_next Remove mid now can is begins ends = subst (λ k. AreFound k now) (sym is) (subst (AreFound old) (sym (ends ∙ begins)) f)
  found_next Surprise mid now can is begins ends = subst (λ k. AreFound k now) (sym is) (subst (AreFound old) (sym (ends ∙ begins)) f)
  found_next Removed mid now can is begins ends = subst (λ k. AreFound k now) (sym is) (subst (AreFound old) (sym (ends ∙ begins)) f)

  -- what is seen by all behind a label
  answer_is : (n : ℕ) (status : NtStatus) (informed : ℕ) (bytes : List ℕ) (place : Option ℕ) (now : Syncs) → index_of was.calls n ≡ place → may_end old old.owed n status informed (length bytes) ≡ true → TakesAnswer n status place was now
      → shared_in now.shared.items ≡ shared_after n status (shared_in was.shared.items)
  answer_is n status informed bytes None now is can h =
      ap (λ xs. shared_in xs.items) h.0
      ∙ no_index (shared_in was.shared.items) n (none_found old was f n (answer_fresh old n status informed (length bytes) old.owed refl can) None is refl) status
  answer_is n status informed bytes (Some place) now is can h = h.shared

  pub shared_next : (label : Label) (mid now : Syncs) → may_come rules old label ≡ true → BeginsBy label was mid → FinishesBy label mid now → shared_in now.shared.items ≡ shared_behind label (shared_in was.shared.items)
  shared_next (Call n q) mid now can begins ends = ap (λ (s : Syncs). shared_in s.shared.items) ends ∙ kind_is n q.kind q.through was mid begins
  shared_next (Answer n status informed bytes) mid now can begins ends =
      answer_is n status informed bytes (index_of was.calls n) now refl can (subst (λ (s : Syncs). TakesAnswer n status (index_of s.calls n) s now) begins ends)
  shared_next (Device label) mid now can begins ends = ap (λ (s : Syncs). shared_in s.shared.items) (ends ∙ begins)
  shared_next (Cancel n) mid now can begins ends = ap (λ (s : Syncs). shared_in s.shared.items) (ends ∙ begins)
  shared_next Pause mid now can begins ends = ap (λ (s : Syncs). shared_in s.shared.items) (ends ∙ begins)
  shared_next Resume mid now can begins ends = ap (λ (s : Syncs). shared_in s.shared.items) (ends ∙ begins)
  shared_next Remove mid now can begins ends = ap (λ (s : Syncs). shared_in s.shared.items) (ends ∙ begins)
  shared_next Surprise mid now can begins ends = ap (λ (s : Syncs). shared_in s.shared.items) (ends ∙ begins)
  shared_next Removed mid now can begins ends = ap (λ (s : Syncs). shared_in s.shared.items) (ends ∙ begins)

  pub found_mid : (label : Label) (mid : Syncs) → BeginsBy label was mid → IsFound mid label
  found_mid (Call n q) mid begins = tt
  found_mid (Answer n status informed bytes) mid begins = subst (λ (s : Syncs). IsIndexed s.shared.items n (index_of s.calls n)) (sym begins) (f.indexed n)
  found_mid (Device label) mid begins = tt
  found_mid (Cancel n) mid begins = tt
  found_mid Pause mid begins = tt
  found_mid Resume mid begins = tt
  found_mid Remove mid begins = tt
  found_mid Surprise mid begins = tt
  found_mid Removed mid begins = tt

-- none in a new session
pub found_first : (known : Known) (syncs : Syncs) → shared_in syncs.shared.items ≡ [] → ((n : ℕ) → index_of syncs.calls n ≡ None) → AreFound known syncs
found_first known syncs none closed = record {
  closed = λ n high. closed n;
  indexed = λ n. subst (IsIndexed syncs.shared.items n) (sym (closed n)) tt;
  found = λ n fresh. subst (IsFoundAt (shared_in syncs.shared.items) n) (sym (closed n)) (ap (list_any (is_sync_of n)) none);
}
