-- The text of a number of up to four digits.
use Rattle.std.proofs.Common.{◌≡◌, ℕ, ◌+◌, ◌/◌, ◌%◌, ◌<◌, ◌≤◌, List, [], ◌∷◌, ◌++◌, OnOk, Result, Ok, Err, is_ok, if◌then◌else◌, arith}
use Rattle.std.proofs.lemmas.Fmt.{decimal_digit, decimal_step}
use Rattle.std.specs.Fmt.{decimal}

pub one : (n : ℕ) → n < 10 → decimal n ≡ (48 + n) ∷ []
one = decimal_digit

pub two : (n : ℕ) → 10 ≤ n → n < 100 → decimal n ≡ (48 + n / 10) ∷ (48 + n % 10) ∷ []
two n lo hi = rw (decimal_step n lo (omega arith), one (n / 10) (omega arith))

pub three : (n : ℕ) → 100 ≤ n → n < 1000 → decimal n ≡ (48 + n / 100) ∷ (48 + n / 10 % 10) ∷ (48 + n % 10) ∷ []
three n lo hi =
    let a : n / 10 / 10 ≡ n / 100 = omega arith in
    rw (decimal_step n (omega arith) (omega arith), two (n / 10) (omega arith) (omega arith), a)

pub four : (n : ℕ) → 1000 ≤ n → n < 10000 → decimal n ≡ (48 + n / 1000) ∷ (48 + n / 100 % 10) ∷ (48 + n / 10 % 10) ∷ (48 + n % 10) ∷ []
four n lo hi =
    let a : n / 10 / 100 ≡ n / 1000 = omega arith in
    let b : n / 10 / 10 ≡ n / 100 = omega arith in
    rw (decimal_step n (omega arith) (omega arith), three (n / 10) (omega arith) (omega arith), a, b)

-- what is behind a text, where it was written
pub where_written : {E : Type 0} (r : Result Unit E) (new old more : List ℕ) → new ≡ (if is_ok r then old ++ more else old) → OnOk r (new ≡ old ++ more)
where_written (Ok x) new old more h = h
where_written (Err e) new old more h = tt
