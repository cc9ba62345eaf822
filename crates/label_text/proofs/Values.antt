-- The table of digits, tried for each code.
use Rattle.std.proofs.Common.{◌≡◌, ◌<◌, ◌==◌, ◌&&◌, ℕ, zero, suc, Bool, true, false, Option, Some, None, ap, arith, inl, inr, refl, slice_index_or}
use Rattle.std.proofs.lemmas.Bool.{and_parts, cases_lt, eqb-true}
use Rattle.label_text.specs.inside.Reading.{digit_in, digit_told}
use Rattle.label_text.specs.declared.decoding.TheConstants.{VALUES}

abbrev all_below : (ℕ → Bool) → ℕ → Bool
all_below p zero = true
all_below p (suc n) = p n && all_below p n

all_below_at : (p : ℕ → Bool) (n k : ℕ) → all_below p n ≡ true → k < n → p k ≡ true
all_below_at p zero k h lt = absurd (omega arith)
all_below_at p (suc n) k h lt =
    let parts = and_parts (p n) (all_below p n) h in
    elim (cases_lt k n) [
      | inl below ↦ all_below_at p n k parts.1 below
      | inr top ↦
          let e : k ≡ n = omega arith in
          rw e parts.0
    ]

abbrev is_same : Option ℕ → Option ℕ → Bool
is_same None None = true
is_same None (Some y) = false
is_same (Some x) None = false
is_same (Some x) (Some y) = x == y

same : (o p : Option ℕ) → is_same o p ≡ true → o ≡ p
same None None h = refl
same None (Some y) h = absurd (cc (h))
same (Some x) None h = absurd (cc (h))
same (Some x) (Some y) h = ap (λ n. Some n) (eqb-true x y h)

abbrev is_told : ℕ → Bool
is_told c = is_same (digit_told (slice_index_or VALUES c 0)) (digit_in c)

pub told : (c : ℕ) → c < 256 → digit_told (slice_index_or VALUES c 0) ≡ digit_in c
told c small = same (digit_told (slice_index_or VALUES c 0)) (digit_in c) (all_below_at is_told 256 c refl small)
