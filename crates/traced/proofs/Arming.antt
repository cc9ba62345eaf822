-- Slots retired one after another.
use Rattle.std.proofs.Common.{◌≡◌, ◌≢◌, ◌⊎◌, ℕ, suc, ◌+◌, ◌<◌, ◌≤◌, ◌==◌, max, if◌then◌else◌, true, false, List, length, set, Option, None, sym, ap, ◌∙◌, arith, get_or-set_same, get_or-set_other, inl, inr}
use Rattle.traced.proofs.Common.{nat_tests, cases_lt, View, LooksNowhere, SlotsView, number_at, AreEmptyFrom, ArmedBelow, Leaves, unless_number}
use mathlib.Core.Logic.{dite}
use native.Mathlib.Decide.{ℕ_discrete}

-- the slots below this one were gone through
pub record HasRetired (number slot : ℕ) (old new : SlotsView) : Type 0 where
  pub passed : (k : ℕ) → k < slot → number_at new.numbers k ≡ unless_number number (number_at old.numbers k)
  pub ahead : (k : ℕ) → slot ≤ k → number_at new.numbers k ≡ number_at old.numbers k
  pub looks : LooksNowhere old.owner new.owner
  pub below : (next : ℕ) → ArmedBelow next old.owner → ArmedBelow next new.owner

pub nowhere_joined : (a b c : View) → LooksNowhere a b → LooksNowhere b c → LooksNowhere a c
nowhere_joined a b c one two = record {
  looks = λ k. two.looks k ∙ one.looks k;
  seen = two.seen ∙ one.seen;
  marks = two.marks ∙ one.marks;
}

same : (c d : ℕ) → c ≡ d → (c == d) ≡ true
same c d e = grind (arith, nat_tests)

other : (c d : ℕ) → c ≢ d → (c == d) ≡ false
other c d ne = grind (arith, nat_tests)

pub number_set : (numbers : List (Option ℕ)) (slot : ℕ) (n : Option ℕ) (k : ℕ) → slot < length numbers → number_at (set numbers slot n) k ≡ (if slot == k then n else number_at numbers k)
number_set numbers slot n k inside =
    dite
    (ℕ_discrete slot k)
    (λ (e : slot ≡ k). ap (number_at (set numbers slot n)) (sym e) ∙ get_or-set_same numbers slot n None inside ∙ sym (ap (λ b. if b then n else number_at numbers k) (same slot k e)))
    (λ (ne : slot ≢ k). get_or-set_other numbers slot k n None (λ e. ne (sym e)) ∙ sym (ap (λ b. if b then n else number_at numbers k) (other slot k ne)))

-- WHERE THE NUMBERS END

pub empty_armed : (numbers : List (Option ℕ)) (slot end : ℕ) (n : Option ℕ) → slot < length numbers → AreEmptyFrom end numbers → AreEmptyFrom (max end (slot + 1)) (set numbers slot n)
empty_armed numbers slot end n inside empty k above =
    let apart : slot < k = omega arith in
    let behind : end ≤ k = omega arith in
    get_or-set_other numbers slot k n None (λ e. (omega arith)) ∙ empty k behind

pub empty_retired : (numbers : List (Option ℕ)) (slot end : ℕ) → slot < length numbers → AreEmptyFrom end numbers → AreEmptyFrom end (set numbers slot None)
empty_retired numbers slot end inside empty k above =
    dite
    (ℕ_discrete k slot)
    (λ (e : k ≡ slot). ap (number_at (set numbers slot None)) e ∙ get_or-set_same numbers slot None None inside)
    (λ (ne : k ≢ slot). get_or-set_other numbers slot k None None ne ∙ empty k above)

pub empty_below : (numbers : List (Option ℕ)) (left : ℕ) → AreEmptyFrom (suc left) numbers → number_at numbers left ≡ None → AreEmptyFrom left numbers
empty_below numbers left empty none k above =
    dite
    (ℕ_discrete k left)
    (λ (e : k ≡ left). ap (number_at numbers) e ∙ none)
    (λ (ne : k ≢ left). empty k (omega arith))

pub all_retired : (number end : ℕ) (old new : SlotsView) → AreEmptyFrom end old.numbers → HasRetired number end old new → Leaves number old.numbers new.numbers
all_retired number end old new empty retired k = by_place (cases_lt k end) where
  by_place : (k < end) ⊎ (end ≤ k) → number_at new.numbers k ≡ unless_number number (number_at old.numbers k)
  by_place (inl below) = retired.passed k below
  by_place (inr above) = retired.ahead k above ∙ empty k above ∙ sym (ap (unless_number number) (empty k above))
