-- What a sector sees of requests that are open, or to come.
use Rattle.std.proofs.Common.{◌≡◌, ◌<◌, ◌≤◌, ◌⊎◌, inl, inr, ℕ, suc, ◌+◌, ◌/◌, ◌==◌, ◌&&◌, ◌||◌, Bool, true, false, not, List, [], ◌∷◌, ◌++◌, Option, Some, None, refl, sym, ◌∙◌, ap, subst, arith, length}
use Rattle.std.specs.Prelude.{is_none, nat_lt, if◌then◌else◌}
use Rattle.std.specs.List.{list_any}
use Rattle.std.proofs.lemmas.Bool.{cases_Bool, and_parts, eqb-true, leb-true}
use Rattle.std.proofs.lemmas.Bool.Decides.{nat_tests}
use Rattle.std.proofs.lemmas.Nat.{div_below}
use Rattle.ntstatus.specs.declared.NtStatus.{NtStatus}
use Rattle.ntstatus.specs.declared.NtStatus.TheVariants.{Success, InvalidHandle, InvalidParameter}
use Rattle.ntstatus.specs.First.{when, first_some}
use Rattle.srb.specs.declared.Kind.{Kind}
use Rattle.srb.specs.declared.Kind.TheVariants.{Read, Write, Flush}
use Rattle.machine.specs.declared.ClientRequest.{ClientRequest}
use Rattle.machine.specs.declared.Label.{Label}
use Rattle.machine.specs.declared.Label.TheVariants.{Call, Device, Answer, Cancel, Pause, Resume, Remove, Surprise, Removed}
use Rattle.machine.specs.Rules.{Rules, is_transfer, is_in_bounds, place_count}
use Rattle.history_laws.specs.declared.Asked.{Asked}
use Rattle.history_laws.specs.Fitting.{refused}
use Rattle.loss.specs.Laws.{sector_of}
use Rattle.register.specs.Values.{code}
use Rattle.history_loss_sights.specs.Sights.{end_of, has_sector, success_bytes}
use Rattle.history_loss_kept.specs.declared.Wait.{Wait}
use Rattle.history_loss_kept.specs.declared.Wait.TheVariants.{Known as KnownWait, Awaits}
use Rattle.history_loss_kept.specs.declared.Own.{Own}
use Rattle.history_loss_kept.specs.declared.Shared.{Shared}
use Rattle.history_loss_kept.specs.Kept.{call_of, call_wait, fill, is_call_of, is_own_of, is_sync_of, own_after_answer, own_after_call, read_by, wait_by, with_first, with_last}
use Rattle.history_loss_sector.specs.Seen.{IsOnce, SeenView, is_for}
use Rattle.history_fitting.specs.declared.fitting.Known.{Known}
use Rattle.history_fitting.specs.Opened.{opened_at, ends_request, may_end, may_come, PutsCall, PutsAnswer, Takes, AreOpen, first_fresh, IsFresh}
use Rattle.history_fitting.proofs.Opening.{call_is_next, opened_past}
use Rattle.history_loss_judge.specs.inside.Telling.{behind_label}
use Rattle.history_loss_judge.specs.inside.Histories.{AreOnce, AreQuiet, moves_at}

-- NUMBERS

pub alike : (a b : ℕ) → (a ≡ b) ⊎ (a ≡ b → ⊥)
alike a b = grind arith

pub apart : (a b : ℕ) → (a ≡ b → ⊥) → (a == b) ≡ false
apart a b differ = elim (cases_Bool (a == b)) [
  | inl same ↦ absurd (differ (eqb-true a b same))
  | inr other ↦ other
]

and_false : (b : Bool) → (b && false) ≡ false
and_false true = refl
and_false false = refl

-- WHETHER ANY

or_first : (a b : Bool) → (a || b) ≡ false → a ≡ false
or_first true b h = h
or_first false b h = refl

or_rest : (a b : Bool) → (a || b) ≡ false → b ≡ false
or_rest true b h = absurd (cc (h))
or_rest false b h = h

or_both : (a b : Bool) → a ≡ false → b ≡ false → (a || b) ≡ false
or_both true b e f = e
or_both false b e f = f

push_none : (f : Own → Bool) (own : List Own) (o : Own) → list_any f own ≡ false → f o ≡ false → list_any f (own ++ o ∷ []) ≡ false
push_none f [] o e g = or_both (f o) false g refl
push_none f (x ∷ own) o e g = or_both (f x) (list_any f (own ++ o ∷ [])) (or_first (f x) (list_any f own) e) (push_none f own o (or_rest (f x) (list_any f own) e) g)

once_push : (m : ℕ) (own : List Own) (o : Own) → IsOnce m own → (is_for m o ≡ true → list_any (is_for m) own ≡ false) → IsOnce m (own ++ o ∷ [])
once_push m [] o h k = (λ e. refl, tt)
once_push m (x ∷ own) o h k =
    (λ e. push_none (is_for m) own o (h.0 e) (by e (cases_Bool (is_for m o))), once_push m own o h.1 (λ e. or_rest (is_for m x) (list_any (is_for m) own) (k e)))
  where
    by : is_for m x ≡ true → (is_for m o ≡ true) ⊎ (is_for m o ≡ false) → is_for m o ≡ false
    by e (inl t) = let other : is_for m x ≡ false = or_first (is_for m x) (list_any (is_for m) own) (k t) in absurd (cc (sym e ∙ other))
    by e (inr f) = f

no_end : (m n : ℕ) (status : NtStatus) → is_call_of m (end_of n status) ≡ false
no_end m n Success = refl
no_end m n _ = refl

-- AN ANSWER

module _ (rules : Rules) (n : ℕ) (bytes : Option (List ℕ)) where
  first_less : (m behind : ℕ) (wait : Wait) (rest : List Own) → is_for m (record { behind = behind; wait = wait }) ≡ false → list_any (is_for m) rest ≡ false
      → list_any (is_for m) (with_first behind (wait_by code rules n bytes wait) rest) ≡ false
  first_less m behind (KnownWait sight) rest h k = or_both (is_call_of m sight) (list_any (is_for m) rest) h k
  first_less m behind (Awaits number place) rest h k = by (number == n)
    where
      by_bytes : (found : Option (List ℕ)) → list_any (is_for m) (with_first behind (read_by code rules number place found) rest) ≡ false
      by_bytes None = k
      by_bytes (Some b) = or_both (number == m) (list_any (is_for m) rest) h k

      by : (t : Bool) → list_any (is_for m) (with_first behind (if t then read_by code rules number place bytes else Some (Awaits number place)) rest) ≡ false
      by true = by_bytes bytes
      by false = or_both (number == m) (list_any (is_for m) rest) h k

  fill_less : (m : ℕ) (own : List Own) → list_any (is_for m) own ≡ false → list_any (is_for m) (fill code rules n bytes own) ≡ false
  fill_less m [] h = refl
  fill_less m (o ∷ own) h =
      first_less m o.behind o.wait (fill code rules n bytes own) (or_first (is_for m o) (list_any (is_for m) own) h) (fill_less m own (or_rest (is_for m o) (list_any (is_for m) own) h))

  first_once : (m behind : ℕ) (wait : Wait) (rest : List Own) → (is_for m (record { behind = behind; wait = wait }) ≡ true → list_any (is_for m) rest ≡ false) → IsOnce m rest
      → IsOnce m (with_first behind (wait_by code rules n bytes wait) rest)
  first_once m behind (KnownWait sight) rest h k = (h, k)
  first_once m behind (Awaits number place) rest h k = by (number == n)
    where
      by_bytes : (found : Option (List ℕ)) → IsOnce m (with_first behind (read_by code rules number place found) rest)
      by_bytes None = k
      by_bytes (Some b) = (h, k)

      by : (t : Bool) → IsOnce m (with_first behind (if t then read_by code rules number place bytes else Some (Awaits number place)) rest)
      by true = by_bytes bytes
      by false = (h, k)

  fill_once : (m : ℕ) (own : List Own) → IsOnce m own → IsOnce m (fill code rules n bytes own)
  fill_once m [] h = tt
  fill_once m (o ∷ own) h = first_once m o.behind o.wait (fill code rules n bytes own) (λ e. fill_less m own (h.0 e)) (fill_once m own h.1)

  -- nothing changes where nothing is seen of it
  first_same : (behind : ℕ) (wait : Wait) (rest : List Own) → is_for n (record { behind = behind; wait = wait }) ≡ false → with_first behind (wait_by code rules n bytes wait) rest ≡ record { behind = behind; wait = wait } ∷ rest
  first_same behind (KnownWait sight) rest h = refl
  first_same behind (Awaits number place) rest h = ap (λ t. with_first behind (if t then read_by code rules number place bytes else Some (Awaits number place)) rest) h

  fill_same : (own : List Own) → list_any (is_for n) own ≡ false → fill code rules n bytes own ≡ own
  fill_same [] h = refl
  fill_same (o ∷ own) h =
      ap (λ xs. with_first o.behind (wait_by code rules n bytes o.wait) xs) (fill_same own (or_rest (is_for n o) (list_any (is_for n) own) h))
      ∙ first_same o.behind o.wait own (or_first (is_for n o) (list_any (is_for n) own) h)

  own_none : (own : List Own) → list_any (is_for n) own ≡ false → list_any (is_own_of n) own ≡ false
  own_none [] h = refl
  own_none (o ∷ own) h =
      or_both (is_own_of n o) (list_any (is_own_of n) own) (by o.behind o.wait (or_first (is_for n o) (list_any (is_for n) own) h)) (own_none own (or_rest (is_for n o) (list_any (is_for n) own) h))
    where
      by : (behind : ℕ) (wait : Wait) → is_for n (record { behind = behind; wait = wait }) ≡ false → is_own_of n (record { behind = behind; wait = wait }) ≡ false
      by behind (KnownWait sight) h = h
      by behind (Awaits number place) h = refl

  module _ (shared : List Shared) (status : NtStatus) where
    abbrev ended : Own
    ended = record { behind = length shared; wait = KnownWait (end_of n status) }

    answer_less : (m : ℕ) (own : List Own) → list_any (is_for m) own ≡ false → list_any (is_for m) (own_after_answer code rules n shared status bytes own) ≡ false
    answer_less m own h = by (not (list_any (is_sync_of n) shared) && list_any (is_own_of n) (fill code rules n bytes own)) (fill code rules n bytes own) (fill_less m own h)
      where
        by : (t : Bool) (left : List Own) → list_any (is_for m) left ≡ false → list_any (is_for m) (if t then left ++ ended ∷ [] else left) ≡ false
        by true left k = push_none (is_for m) left ended k (no_end m n status)
        by false left k = k

    answer_once : (m : ℕ) (own : List Own) → IsOnce m own → IsOnce m (own_after_answer code rules n shared status bytes own)
    answer_once m own h = by (not (list_any (is_sync_of n) shared) && list_any (is_own_of n) (fill code rules n bytes own)) (fill code rules n bytes own) (fill_once m own h)
      where
        by : (t : Bool) (left : List Own) → IsOnce m left → IsOnce m (if t then left ++ ended ∷ [] else left)
        by true left k = once_push m left ended k (λ e. absurd (cc (sym e ∙ no_end m n status)))
        by false left k = k

    answer_same : (own : List Own) → list_any (is_for n) own ≡ false → own_after_answer code rules n shared status bytes own ≡ own
    answer_same own h =
        ap (λ xs. if not (list_any (is_sync_of n) shared) && list_any (is_own_of n) xs then xs ++ ended ∷ [] else xs) (fill_same own h)
        ∙ ap (λ b. if not (list_any (is_sync_of n) shared) && b then own ++ ended ∷ [] else own) (own_none own h)
        ∙ ap (λ b. if b then own ++ ended ∷ [] else own) (and_false (not (list_any (is_sync_of n) shared)))

-- A CALL

module _ (rules : Rules) (i behind n : ℕ) (q : ClientRequest) where
  call_less : (m : ℕ) (own : List Own) → (n ≡ m → ⊥) → list_any (is_for m) own ≡ false → list_any (is_for m) (own_after_call code rules i behind n q own) ≡ false
  call_less m own differ h = by (has_sector rules i q)
    where
      by_kind : (kind : Kind) → list_any (is_for m) (with_last behind (call_wait code rules i n q kind) own) ≡ false
      by_kind Read = push_none (is_for m) own _ h (apart n m differ)
      by_kind Write = push_none (is_for m) own _ h (apart n m differ)
      by_kind Flush = h

      by : (t : Bool) → list_any (is_for m) (if t then with_last behind (call_wait code rules i n q q.kind) own else own) ≡ false
      by true = by_kind q.kind
      by false = h

  call_once : (m : ℕ) (own : List Own) → (n ≡ m → list_any (is_for m) own ≡ false) → IsOnce m own → IsOnce m (own_after_call code rules i behind n q own)
  call_once m own none h = by (has_sector rules i q)
    where
      by_kind : (kind : Kind) → IsOnce m (with_last behind (call_wait code rules i n q kind) own)
      by_kind Read = once_push m own _ h (λ e. none (eqb-true n m e))
      by_kind Write = once_push m own _ h (λ e. none (eqb-true n m e))
      by_kind Flush = h

      by : (t : Bool) → IsOnce m (if t then with_last behind (call_wait code rules i n q q.kind) own else own)
      by true = by_kind q.kind
      by false = h

  call_same : (own : List Own) → has_sector rules i q ≡ false → own_after_call code rules i behind n q own ≡ own
  call_same own none = ap (λ b. if b then with_last behind (call_wait code rules i n q q.kind) own else own) none

-- REFUSALS

not_true : (b : Bool) → not b ≡ true → b ≡ false
not_true true e = sym e
not_true false e = refl

-- what is refused moves nothing
moves_none : (rules : Rules) (i : ℕ) (q : ClientRequest) (status : NtStatus) → 0 < rules.sector_size → refused rules q ≡ Some status → has_sector rules i q ≡ false
moves_none rules i q status sized told = by_sector (has_sector rules i q) refl
  where
    taken_in : has_sector rules i q ≡ true → refused rules q ≡ None
    taken_in has =
        let parts = and_parts _ _ has in
        let asks = and_parts _ _ parts.0 in
        let moves = and_parts _ _ asks.1 in
        let within = and_parts _ _ parts.1 in
        let first : sector_of rules q 0 ≤ i = leb-true (sector_of rules q 0) i within.0 in
        let last : nat_lt i (sector_of rules q 0 + place_count rules q) ≡ true = within.1 in
        let counted : place_count rules q ≡ q.length / rules.sector_size = ap (λ b. if b then q.length / rules.sector_size else 1) moves.0 in
        let last' : nat_lt i (sector_of rules q 0 + q.length / rules.sector_size) ≡ true = ap (λ n. nat_lt i (sector_of rules q 0 + n)) (sym counted) ∙ last in
        let some : (q.length == 0) ≡ false = apart q.length 0 (λ none.
        let low : 0 / rules.sector_size < 1 = div_below 0 rules.sector_size 1 sized (omega (arith, sized)) in
        let empty : nat_lt i (sector_of rules q 0 + 0 / rules.sector_size) ≡ true = ap (λ n. nat_lt i (sector_of rules q 0 + n / rules.sector_size)) (sym none) ∙ last' in
        absurd (grind (arith, nat_tests, low, empty, first))) in
        ap (λ b. first_some (when b InvalidHandle ∷ when (is_transfer q.kind && not (is_in_bounds rules q)) InvalidParameter ∷ when (is_transfer q.kind && (q.length == 0)) Success ∷ [])) (not_true (is_none q.partition) asks.0)
        ∙ ap (λ b. first_some (when false InvalidHandle ∷ when (is_transfer q.kind && not b) InvalidParameter ∷ when (is_transfer q.kind && (q.length == 0)) Success ∷ [])) moves.1
        ∙ ap (λ b. first_some (when false InvalidHandle ∷ when (b && not true) InvalidParameter ∷ when (b && (q.length == 0)) Success ∷ [])) moves.0
        ∙ ap (λ b. first_some (when false InvalidHandle ∷ when (true && not true) InvalidParameter ∷ when (true && b) Success ∷ [])) some

    by_sector : (b : Bool) → has_sector rules i q ≡ b → has_sector rules i q ≡ false
    by_sector true e = absurd (cc (sym told ∙ taken_in e))
    by_sector false e = e

pub none_owed : (rules : Rules) (known : Known) (n : ℕ) (q : ClientRequest) → may_come rules known (Call n q) ≡ true → known.owed ≡ None
none_owed rules known n q can = by_owed known.owed (and_parts _ _ can).0
  where
    by_owed : (owed : Option NtStatus) → is_none owed ≡ true → owed ≡ None
    by_owed None e = refl
    by_owed (Some status) e = absurd (cc (e))

owed_last : (known : Known) (n : ℕ) (status owed : NtStatus) (informed count : ℕ) → may_end known (Some owed) n status informed count ≡ true → n ≡ known.calls
owed_last known n status owed informed count can = eqb-true n known.calls (and_parts _ _ can).0

-- an open request was called
open_low : (asked : List (Option Asked)) (known : Known) → AreOpen asked known → (n : ℕ) (status : NtStatus) (informed count : ℕ) → may_end known None n status informed count ≡ true → n ≤ known.calls
open_low asked known a n status informed count can = elim (split n known.calls) [
  | inl low ↦ low
  | inr high ↦ absurd (cc (sym can ∙ ap (λ o. ends_request o status informed count) (opened_past known asked a n high)))
]
  where
    split : (x y : ℕ) → (x ≤ y) ⊎ (y < x)
    split x y = grind arith

-- what is answered was called
pub answer_low : (asked : List (Option Asked)) (known : Known) → AreOpen asked known → (owed : Option NtStatus) (n : ℕ) (status : NtStatus) (informed count : ℕ) → may_end known owed n status informed count ≡ true → n ≤ known.calls
answer_low asked known a None n status informed count can = open_low asked known a n status informed count can
answer_low asked known a (Some owed) n status informed count can = let e : n ≡ known.calls = owed_last known n status owed informed count can in omega (arith, e)

pub answer_fresh : (known : Known) (n : ℕ) (status : NtStatus) (informed count : ℕ) (owed : Option NtStatus) → known.owed ≡ owed → may_end known owed n status informed count ≡ true → IsFresh known n
answer_fresh known n status informed count None was can = λ e. absurd (cc (sym can ∙ ap (λ o. ends_request o status informed count) e))
answer_fresh known n status informed count (Some owed) was can =
    λ e. subst (λ o. first_fresh o known.calls ≤ n) (sym was) (let last : n ≡ known.calls = owed_last known n status owed informed count can in omega (arith, last))

-- FRESH NUMBERS, ONE LABEL MORE

-- what is fresh behind a call is it before, and isn't the call's unless that was taken in
pub fresh_call : (rules : Rules) (old new : Known) (n : ℕ) (q : ClientRequest) (r : Option NtStatus) → n ≡ old.calls + 1 → old.owed ≡ None → new.calls ≡ n → new.owed ≡ r → PutsCall r old.opened n q new.opened
    → (m : ℕ) → IsFresh new m → IsFresh old m
fresh_call rules old new n q None next none calls owed puts m fresh = λ e. elim (alike m n) [
  | inl same ↦ subst (λ o. first_fresh o old.calls ≤ m) (sym none) (omega (arith, next, same))
  | inr differ ↦
      let low : first_fresh new.owed new.calls ≤ m = fresh (puts.others m differ ∙ e) in
      let low' : suc new.calls ≤ m = subst (λ o. first_fresh o new.calls ≤ m) owed low in
      subst (λ o. first_fresh o old.calls ≤ m) (sym none) (omega (arith, low', calls, next))
]
fresh_call rules old new n q (Some status) next none calls owed puts m fresh = λ e.
    let low : first_fresh new.owed new.calls ≤ m = fresh (ap (λ o. opened_at o m) puts ∙ e) in
    let low' : new.calls ≤ m = subst (λ o. first_fresh o new.calls ≤ m) owed low in
    subst (λ o. first_fresh o old.calls ≤ m) (sym none) (omega (arith, low', calls, next))

-- what is fresh behind an answer is another number, and was it before
pub fresh_answer : (asked : List (Option Asked)) (old new : Known) → AreOpen asked old → (n : ℕ) (status : NtStatus) (informed count : ℕ) (owed : Option NtStatus) → old.owed ≡ owed → may_end old owed n status informed count ≡ true
    → new.calls ≡ old.calls → new.owed ≡ None → PutsAnswer owed old.opened n new.opened → (m : ℕ) → IsFresh new m → (n ≡ m → ⊥) × IsFresh old m × (opened_at new.opened m ≡ opened_at old.opened m)
fresh_answer asked old new a n status informed count None was can calls none puts m fresh =
    let low : n ≤ old.calls = open_low asked old a n status informed count can in
    let other : n ≡ m → ⊥ = (λ same.
    let past : first_fresh new.owed new.calls ≤ m = fresh (ap (opened_at new.opened) (sym same) ∙ puts.here) in
    let past' : suc new.calls ≤ m = subst (λ o. first_fresh o new.calls ≤ m) none past in
    absurd (omega (arith, past', calls, low, same))) in
    let there : opened_at new.opened m ≡ opened_at old.opened m = puts.others m (λ same. other (sym same)) in
    let before : IsFresh old m = (λ e.
    let past : first_fresh new.owed new.calls ≤ m = fresh (there ∙ e) in
    let past' : suc new.calls ≤ m = subst (λ o. first_fresh o new.calls ≤ m) none past in
    subst (λ o. first_fresh o old.calls ≤ m) (sym was) (omega (arith, past', calls))) in
    (other, before, there)
fresh_answer asked old new a n status informed count (Some owed) was can calls none puts m fresh =
    let last : n ≡ old.calls = owed_last old n status owed informed count can in
    let there : opened_at new.opened m ≡ opened_at old.opened m = ap (λ o. opened_at o m) puts in
    let high : opened_at old.opened m ≡ None → suc old.calls ≤ m = (λ e.
    let past : first_fresh new.owed new.calls ≤ m = fresh (there ∙ e) in
    let past' : suc new.calls ≤ m = subst (λ o. first_fresh o new.calls ≤ m) none past in
    omega (arith, past', calls)) in
    let other : n ≡ m → ⊥ = (λ same.
    let closed : opened_at old.opened m ≡ None = ap (opened_at old.opened) (sym same ∙ last) ∙ a.owing owed was in
    let past : suc old.calls ≤ m = high closed in
    absurd (omega (arith, past, same, last))) in
    let before : IsFresh old m = (λ e. let past : suc old.calls ≤ m = high e in subst (λ o. first_fresh o old.calls ≤ m) (sym was) (omega (arith, past))) in
    (other, before, there)

-- ONE LABEL MORE

module _ (rules : Rules) (asked : List (Option Asked)) (old new : Known) (a : AreOpen asked old) (shared : List Shared) (kept : ℕ → SeenView) (quiet : AreQuiet rules old kept) (once : AreOnce kept) where
  abbrev next : Label → ℕ → SeenView
  next label i = behind_label rules i shared label (kept i)

  -- nothing is seen of the next call
  none_next : (n : ℕ) → n ≡ old.calls + 1 → old.owed ≡ None → (i : ℕ) → list_any (is_for n) (kept i).own ≡ false
  none_next n next none i =
      quiet i n (λ e. subst (λ o. first_fresh o old.calls ≤ n) (sym none) (omega (arith, next)))
      (ap (moves_at rules i) (opened_past old asked a n (omega (arith, next))))

  call_quiet : (n : ℕ) (q : ClientRequest) (r : Option NtStatus) → n ≡ old.calls + 1 → old.owed ≡ None → new.calls ≡ n → new.owed ≡ r → PutsCall r old.opened n q new.opened
      → ((i : ℕ) (status : NtStatus) → r ≡ Some status → has_sector rules i q ≡ false) → (i m : ℕ) → IsFresh new m → moves_at rules i (opened_at new.opened m) ≡ false
      → list_any (is_for m) (next (Call n q) i).own ≡ false
  call_quiet n q None after none calls owed puts moves i m fresh still = elim (alike m n) [
    | inl same ↦
        let has : has_sector rules i q ≡ false = ap (moves_at rules i) (sym (ap (opened_at new.opened) same ∙ puts.here)) ∙ still in
        ap (list_any (is_for m)) (call_same rules i (length (shared ++ call_of n q.kind q.through)) n q (kept i).own has)
        ∙ ap (λ k. list_any (is_for k) (kept i).own) same ∙ none_next n after none i
    | inr differ ↦
        call_less rules i (length (shared ++ call_of n q.kind q.through)) n q m (kept i).own (λ same. differ (sym same))
        (quiet i m (fresh_call rules old new n q None after none calls owed puts m fresh) (ap (moves_at rules i) (sym (puts.others m differ)) ∙ still))
  ]
  call_quiet n q (Some status) after none calls owed puts moves i m fresh still =
      ap (list_any (is_for m)) (call_same rules i (length (shared ++ call_of n q.kind q.through)) n q (kept i).own (moves i status refl))
      ∙ quiet i m (fresh_call rules old new n q (Some status) after none calls owed puts m fresh) (ap (λ o. moves_at rules i (opened_at o m)) (sym puts) ∙ still)

  pub quiet_next : 0 < rules.sector_size → (label : Label) → may_come rules old label ≡ true → Takes rules old label new → AreQuiet rules new (next label)
  quiet_next sized (Call n q) can takes = λ i m fresh still.
      call_quiet n q (refused rules q) (call_is_next rules old n q can) (none_owed rules old n q can) takes.0 takes.1 takes.2 (λ i status is. moves_none rules i q status sized is) i m fresh still
  quiet_next sized (Answer n status informed bytes) can takes = λ i m fresh still.
      let f = fresh_answer asked old new a n status informed (length bytes) old.owed refl can takes.0 takes.1 takes.2 m fresh in
      answer_less rules n (success_bytes status bytes) shared status m (kept i).own (quiet i m f.1 (ap (moves_at rules i) (sym f.2) ∙ still))
  quiet_next sized (Device label) can is = subst (λ k. AreQuiet rules k kept) (sym is) quiet
  quiet_next sized (Cancel n) can is = subst (λ k. AreQuiet rules k kept) (sym is) quiet
  quiet_next sized Pause can is = subst (λ k. AreQuiet rules k kept) (sym is) quiet
  quiet_next sized Resume can is = subst (λ k. AreQuiet rules k kept) (sym is) quiet
  quiet_next sized Remove can is = subst (λ k. AreQuiet rules k kept) (sym is) quiet
  quiet_next sized Surprise can is = subst (λ k. AreQuiet rules k kept) (sym is) quiet
  quiet_next sized Removed can is = subst (λ k. AreQuiet rules k kept) (sym is) quiet

  pub once_next : (label : Label) → may_come rules old label ≡ true → AreOnce (next label)
  once_next (Call n q) can = λ i m.
      call_once rules i (length (shared ++ call_of n q.kind q.through)) n q m (kept i).own
      (λ same. subst (λ k. list_any (is_for k) (kept i).own ≡ false) same (none_next n (call_is_next rules old n q can) (none_owed rules old n q can) i)) (once i m)
  once_next (Answer n status informed bytes) can = λ i m. answer_once rules n (success_bytes status bytes) shared status m (kept i).own (once i m)
  once_next (Device label) can = once
  once_next (Cancel n) can = once
  once_next Pause can = once
  once_next Resume can = once
  once_next Remove can = once
  once_next Surprise can = once
  once_next Removed can = once

  -- WHAT IT ISN'T FOR

  abbrev with_own : SeenView → List Own → SeenView
  with_own seen own = record { start = seen.start; all = seen.all; steady = seen.steady; own = own }

  pub call_passed : (n : ℕ) (q : ClientRequest) (i : ℕ) → has_sector rules i q ≡ false → next (Call n q) i ≡ kept i
  call_passed n q i none = ap (with_own (kept i)) (call_same rules i (length (shared ++ call_of n q.kind q.through)) n q (kept i).own none)

  pub answer_passed : (n : ℕ) (status : NtStatus) (informed : ℕ) (bytes : List ℕ) (i : ℕ) → IsFresh old n → moves_at rules i (opened_at old.opened n) ≡ false → next (Answer n status informed bytes) i ≡ kept i
  answer_passed n status informed bytes i fresh still = ap (with_own (kept i)) (answer_same rules n (success_bytes status bytes) shared status (kept i).own (quiet i n fresh still))
