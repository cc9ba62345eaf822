-- The number that digits spell, one digit after the other.
use Rattle.script.proofs.Common.{◌<◌, ◌≤◌, ◌+◌, ◌*◌, ◌∙◌, ℕ, zero, suc, List, [], ◌∷◌, Option, Some, None, length, take, get_or, arith, ap, refl, sym, digit_value, AllDigits, digits_more, digits_value_more, digits_value-take-le, AreWorth, IsLonger, Finds, IsNumber}

-- all digits are decimal, so each is
below_at : (digits : List ℕ) (i : ℕ) → AllDigits 10 digits → i < length digits → digit_value (get_or digits i 0) < 10
below_at [] i h within = absurd (omega arith)
below_at (d ∷ ds) zero h within = h.0
below_at (d ∷ ds) (suc i) h within = below_at ds i h.1 (omega arith)

-- one digit more
pub one_more : (digits : List ℕ) (i number longer : ℕ) → i < length digits → AreWorth (take i digits) number
    → IsLonger number (get_or digits i 0) longer → AreWorth (take (i + 1) digits) longer
one_more digits i number longer within h more = record {
  decimal = digits_more 10 digits i within h.decimal more.digit;
  value = more.value ∙ (ap (λ n. n * 10 + digit_value (get_or digits i 0)) h.value ∙ sym (digits_value_more 10 digits i within));
  range = more.range;
}

-- a byte that can't be added leaves no number
pub none_spelled : (digits : List ℕ) (i number : ℕ) → i < length digits → AreWorth (take i digits) number
    → ((longer : ℕ) → ¬ (IsLonger number (get_or digits i 0) longer)) → (n : ℕ) → ¬ (AreWorth digits n)
none_spelled digits i number within h none n is =
    let more = digits_value_more 10 digits i within in
    let most = digits_value-take-le 10 digits (i + 1) (omega arith) in
    let same = h.value in
    none (number * 10 + digit_value (get_or digits i 0)) (record {
      digit = below_at digits i is.decimal within;
      value = refl;
      range = omega (arith, more, most, ap (λ k. k * 10) same, is.value, is.range);
    })

pub number_of : (word : List ℕ) (found : Option ℕ) → 0 < length word → length word ≤ 20 → Finds (AreWorth word) found
    → Finds (IsNumber word) found
number_of word None some short h = λ n is. h n (record { decimal = is.digits.1; value = is.value; range = is.range })
number_of word (Some n) some short h = record { digits = (some, h.decimal); count = short; value = h.value; range = h.range }
