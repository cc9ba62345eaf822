-- Zeros joined.
use Rattle.std.proofs.Common.{◌≡◌, ℕ, zero, suc, ◌+◌, ◌*◌, List, ◌++◌, refl, sym, ◌∙◌, ap, arith, length, replicate}
use Rattle.std.specs.List.{concat}
use Rattle.std.proofs.lemmas.List.{length-replicate, replicate-append-replicate}

-- blocks of them
joined : (size n : ℕ) → concat (replicate n (replicate size 0)) ≡ replicate (n * size) 0
joined size zero = let e : 0 * size ≡ 0 = omega arith in sym (ap (λ m. replicate m 0) e)
joined size (suc n) =
    let e : size + n * size ≡ suc n * size = omega arith in
    ap (λ xs. replicate size 0 ++ xs) (joined size n) ∙ replicate-append-replicate size (n * size) 0 ∙ ap (λ m. replicate m 0) e

pub all_zeros : (size n : ℕ) (bytes : List ℕ) → bytes ≡ concat (replicate n (replicate size 0)) → bytes ≡ replicate (length bytes) 0
all_zeros size n bytes is =
    let e : bytes ≡ replicate (n * size) 0 = is ∙ joined size n in
    e ∙ ap (λ m. replicate m 0) (sym (ap length e ∙ length-replicate (n * size) 0))
