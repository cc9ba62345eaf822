-- What is read of the word of a partition.
use Rattle.serving.proofs.Common.{◌≡◌, ◌^◌, ◌<◌, ◌==◌, ℕ, List, Result, Ok, Err, ap, cond, drop, false, slice_index, subst, sym, IfOk, IfErr, OkIff, IsNumeral, ParsesUnsigned, digits_value, without_leading_plus, SpellsPartition}

found : {E : Type 0} (bs : List ℕ) (r : Result ℕ E) → OkIff r (IsNumeral 10 bs × (digits_value 10 bs < 2 ^ 8)) (digits_value 10 bs) → IfOk r (SpellsPartition bs)
found bs (Ok n) h = record { digits = h.0.0; value = h.1; range = subst (λ m. m < 256) (sym h.1) h.0.1 }
found bs (Err e) h = tt

none_found : {E : Type 0} (bs : List ℕ) (r : Result ℕ E) → OkIff r (IsNumeral 10 bs × (digits_value 10 bs < 2 ^ 8)) (digits_value 10 bs) → IfErr r (λ _. (n : ℕ) → ¬ (SpellsPartition bs n))
none_found bs (Ok n) h = tt
none_found bs (Err e) h = λ n s. h (s.digits, subst (λ m. m < 256) s.value s.range)

-- a text that is not read, with no plus before it, spells none
pub no_partition : {E : Type 0} (bs : List ℕ) (r : Result ℕ E) → ParsesUnsigned 8 10 bs r → (slice_index bs 0 == 43) ≡ false → IfErr r (λ _. (n : ℕ) → ¬ (SpellsPartition bs n))
no_partition bs r h e =
    let plain : without_leading_plus bs ≡ bs = ap (λ t. drop (cond t 1 0) bs) e in
    none_found bs r (subst (λ w. OkIff r (IsNumeral 10 w × (digits_value 10 w < 2 ^ 8)) (digits_value 10 w)) plain h)
