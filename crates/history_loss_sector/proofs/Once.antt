-- Requests are called once.
use Rattle.std.proofs.Common.{◌≡◌, ◌≤◌, ℕ, ◌+◌, ◌==◌, ◌&&◌, Bool, true, false, List, [], ◌∷◌, ◌++◌, inl, inr, Option, Some, None, refl, sym, ◌∙◌, arith, length}
use Rattle.std.specs.Prelude.{if◌then◌else◌, not}
use Rattle.std.specs.List.{list_any}
use Rattle.std.proofs.lemmas.Bool.{cases_Bool, eqb-true}
use Rattle.ntstatus.specs.declared.NtStatus.{NtStatus}
use Rattle.ntstatus.specs.declared.NtStatus.TheVariants.{Success}
use Rattle.srb.specs.declared.Kind.{Kind}
use Rattle.srb.specs.declared.Kind.TheVariants.{Read, Write, Flush}
use Rattle.machine.specs.Rules.{Rules}
use Rattle.history_loss_sights.specs.Sights.{end_of, has_sector}
use Rattle.history_loss_kept.specs.declared.Wait.{Wait}
use Rattle.history_loss_kept.specs.declared.Wait.TheVariants.{Known, Awaits}
use Rattle.history_loss_kept.specs.declared.Own.{Own}
use Rattle.history_loss_kept.specs.Kept.{call_wait, fill, is_call_of, is_own_of, is_sync_of, read_by, wait_by, with_first, with_last}
use Rattle.history_loss_sector.specs.Seen.{IsOnce, is_for}
use Rattle.history_loss_sector.specs.Numbers.{AreApart, NoneAreApart, CallsStayApart, AnswersStayApart}
use Rattle.history_loss_sector.proofs.Answering.{none_of_both, or_both, or_first, or_rest}

pub none_are_apart : NoneAreApart
none_are_apart next n = (tt, λ low. refl)

-- ONE MORE

module _ (m : ℕ) where
  once_push : (own : List Own) (o : Own) → IsOnce m own → (is_for m o ≡ true → list_any (is_for m) own ≡ false) → IsOnce m (own ++ o ∷ [])
  once_push [] o once new = (λ e. refl, tt)
  once_push (x ∷ own) o once new = (λ e. none_of_both (is_for m) own (o ∷ []) (once.0 e) (or_both (is_for m o) false (by (is_for m o) refl e) refl), once_push own o once.1 (λ e. or_rest (is_for m x) (list_any (is_for m) own) (new e)))
    where
      by : (t : Bool) → is_for m o ≡ t → is_for m x ≡ true → is_for m o ≡ false
      by true h e = let differs : true ≡ false = sym e ∙ or_first (is_for m x) (list_any (is_for m) own) (new h) in absurd (cc (differs))
      by false h e = h

  none_push : (own : List Own) (o : Own) → list_any (is_for m) own ≡ false → is_for m o ≡ false → list_any (is_for m) (own ++ o ∷ []) ≡ false
  none_push own o none other = none_of_both (is_for m) own (o ∷ []) none (or_both (is_for m o) false other refl)

other_number : (n m : ℕ) → n + 1 ≤ m → (n == m) ≡ false
other_number n m low = elim (cases_Bool (n == m)) [
  | inl same ↦ let e : n ≡ m = eqb-true n m same in absurd (omega (arith, e, low))
  | inr other ↦ other
]

with_call : (n : ℕ) (own : List Own) (o : Own) → ((m : ℕ) → is_for m o ≡ (n == m)) → AreApart n own → AreApart (n + 1) (own ++ o ∷ [])
with_call n own o is apart = λ m. (
  once_push m own o (apart m).0 (λ e. let same : n ≡ m = eqb-true n m (sym (is m) ∙ e) in (apart m).1 (omega (arith, same))),
  λ low. none_push m own o ((apart m).1 (omega (arith, low))) (is m ∙ other_number n m low),
)

without_call : (n : ℕ) (own : List Own) → AreApart n own → AreApart (n + 1) own
without_call n own apart = λ m. ((apart m).0, λ low. (apart m).1 (omega (arith, low)))

pub calls_stay_apart : CallsStayApart
calls_stay_apart code rules i behind n q own apart = by (has_sector rules i q) (by_kind q.kind)
  where
    by_kind : (kind : Kind) → AreApart (n + 1) (with_last behind (call_wait code rules i n q kind) own)
    by_kind Read = with_call n own _ (λ m. refl) apart
    by_kind Write = with_call n own _ (λ m. refl) apart
    by_kind Flush = without_call n own apart

    by : (t : Bool) → AreApart (n + 1) (with_last behind (call_wait code rules i n q q.kind) own) → AreApart (n + 1) (if t then with_last behind (call_wait code rules i n q q.kind) own else own)
    by true moved = moved
    by false moved = without_call n own apart

-- AN ANSWER

module _ (code : List ℕ → ℕ) (rules : Rules) (n m : ℕ) (bytes : Option (List ℕ)) where
  none_first : (behind : ℕ) (wait : Wait) (own : List Own) → is_for m (record { behind = behind; wait = wait }) ≡ false → list_any (is_for m) own ≡ false
      → list_any (is_for m) (with_first behind (wait_by code rules n bytes wait) own) ≡ false
  none_first behind (Known sight) own other none = or_both (is_call_of m sight) (list_any (is_for m) own) other none
  none_first behind (Awaits number place) own other none = by (number == n) bytes
    where
      by : (t : Bool) (found : Option (List ℕ)) → list_any (is_for m) (with_first behind (if t then read_by code rules number place found else Some (Awaits number place)) own) ≡ false
      by true None = none
      by true (Some b) = or_both (number == m) (list_any (is_for m) own) other none
      by false found = or_both (number == m) (list_any (is_for m) own) other none

  none_filled : (own : List Own) → list_any (is_for m) own ≡ false → list_any (is_for m) (fill code rules n bytes own) ≡ false
  none_filled [] none = refl
  none_filled (o ∷ own) none =
      none_first o.behind o.wait (fill code rules n bytes own) (or_first (is_for m o) (list_any (is_for m) own) none) (none_filled own (or_rest (is_for m o) (list_any (is_for m) own) none))

  once_first : (behind : ℕ) (wait : Wait) (own : List Own) → (is_for m (record { behind = behind; wait = wait }) ≡ true → list_any (is_for m) own ≡ false) → IsOnce m own
      → IsOnce m (with_first behind (wait_by code rules n bytes wait) own)
  once_first behind (Known sight) own first once = (first, once)
  once_first behind (Awaits number place) own first once = by (number == n) bytes
    where
      by : (t : Bool) (found : Option (List ℕ)) → IsOnce m (with_first behind (if t then read_by code rules number place found else Some (Awaits number place)) own)
      by true None = once
      by true (Some b) = (first, once)
      by false found = (first, once)

  once_filled : (own : List Own) → IsOnce m own → IsOnce m (fill code rules n bytes own)
  once_filled [] once = tt
  once_filled (o ∷ own) once = once_first o.behind o.wait (fill code rules n bytes own) (λ e. none_filled own (once.0 e)) (once_filled own once.1)

end_no_call : (n m : ℕ) (status : NtStatus) → is_call_of m (end_of n status) ≡ false
end_no_call n m Success = refl
end_no_call n m _ = refl

pub answers_stay_apart : AnswersStayApart
answers_stay_apart code rules next n shared status bytes own apart = by (not (list_any (is_sync_of n) shared) && list_any (is_own_of n) (fill code rules n bytes own))
  where
    filled : List Own
    filled = fill code rules n bytes own

    last : Own
    last = record { behind = length shared; wait = Known (end_of n status) }

    filled_apart : AreApart next (fill code rules n bytes own)
    filled_apart = λ m. (once_filled code rules n m bytes own (apart m).0, λ low. none_filled code rules n m bytes own ((apart m).1 low))

    other : (m : ℕ) → is_for m (record { behind = length shared; wait = Known (end_of n status) }) ≡ false
    other m = end_no_call n m status

    by : (t : Bool) → AreApart next (if t then fill code rules n bytes own ++ record { behind = length shared; wait = Known (end_of n status) } ∷ [] else fill code rules n bytes own)
    by true = λ m. (
      once_push m filled last (filled_apart m).0 (λ e. let differs : true ≡ false = sym e ∙ other m in absurd (cc (differs))),
      λ low. none_push m filled last ((filled_apart m).1 low) (other m),
    )
    by false = filled_apart
