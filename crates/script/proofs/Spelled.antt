-- What is read of a word of digits, as the words of the definitions.
use Rattle.script.proofs.Common.{◌≡◌, ◌^◌, ◌<◌, ◌==◌, ℕ, List, [], ◌∷◌, Option, Result, Ok, Err, arith, ap, cond, drop, false, length, slice_index, subst, sym, OkIff, result_ok, AllDigits, IsNumeral, ParsesUnsigned, digits_value, without_leading_plus, Finds, IsByte}

-- with no plus before it, a text is read as a numeral
plain_numeral : {E : Type 0} (k radix : ℕ) (bs : List ℕ) (r : Result ℕ E) → ParsesUnsigned k radix bs r → (slice_index bs 0 == 43) ≡ false
    → OkIff r (IsNumeral radix bs × (digits_value radix bs < 2 ^ k)) (digits_value radix bs)
plain_numeral k radix bs r h e =
    let plain : without_leading_plus bs ≡ bs = ap (λ t. drop (cond t 1 0) bs) e in
    subst (λ w. OkIff r (IsNumeral radix w × (digits_value radix w < 2 ^ k)) (digits_value radix w)) plain h

two_digits : (bs : List ℕ) → length bs ≡ 2 → AllDigits 16 bs → digits_value 16 bs < 2 ^ 8
two_digits [] two h = absurd (omega arith)
two_digits (x ∷ []) two h = absurd (omega arith)
two_digits (x ∷ y ∷ []) two h = omega arith
two_digits (x ∷ y ∷ z ∷ bs) two h = absurd (omega arith)

byte_from_ok : {E : Type 0} (bs : List ℕ) (r : Result ℕ E) → OkIff r (IsNumeral 16 bs × (digits_value 16 bs < 2 ^ 8)) (digits_value 16 bs)
    → length bs ≡ 2 → Finds (IsByte bs) (result_ok r)
byte_from_ok bs (Ok n) h two = record { digits = h.0.0; count = two; value = h.1 }
byte_from_ok bs (Err e) h two = λ n is. h (is.digits, two_digits bs two is.digits.1)

pub byte_found : {E : Type 0} (bs : List ℕ) (r : Result ℕ E) (found : Option ℕ) → ParsesUnsigned 8 16 bs r → (slice_index bs 0 == 43) ≡ false
    → length bs ≡ 2 → found ≡ result_ok r → Finds (IsByte bs) found
byte_found bs r found h e two is =
    subst (Finds (IsByte bs)) (sym is) (byte_from_ok bs r (plain_numeral 8 16 bs r h e) two)
