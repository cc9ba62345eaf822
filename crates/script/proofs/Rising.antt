-- Answers in another order: where both rise by number, they are the same.
use Rattle.script.proofs.Common.{◌≡◌, ◌<◌, ℕ, zero, suc, List, [], ◌∷◌, ap, arith, length, map, refl, subst, sym, nil_from_length, All-head, All-tail, Contains-permutation, IsPermutation-sym, length_permutation, IsPermutation-uncons, Answer, AreRising, IsAbove, answer_number}
use Rattle.std.specs.Prelude.{All, Contains, IsPermutation}

-- an answer among those above a number is above it
above : (number : ℕ) (answers : List Answer) (answer : Answer) → All (IsAbove number) (map answer_number answers) → Contains answers answer → number < answer.number
above number [] answer all (k, low, is) = absurd (omega (arith, low))
above number (first ∷ answers) answer all (zero, low, is) = subst (λ (a : Answer). number < a.number) is (All-head (IsAbove number) first.number (map answer_number answers) all)
above number (first ∷ answers) answer all (suc k, low, is) =
    above number answers answer (All-tail (IsAbove number) first.number (map answer_number answers) all) (k, omega (arith, low), is)

-- the first of each stands in both, so it is the first of both
same_first : (x y : Answer) (xs ys : List Answer) → All (IsAbove x.number) (map answer_number xs) → All (IsAbove y.number) (map answer_number ys)
    → Contains (x ∷ xs) y → Contains (y ∷ ys) x → x ≡ y
same_first x y xs ys above_x above_y (zero, low, is) there = is
same_first x y xs ys above_x above_y (suc k, low, is) (zero, low', is') = sym is'
same_first x y xs ys above_x above_y (suc k, low, is) (suc l, low', is') =
    let up : x.number < y.number = above x.number xs y above_x (k, omega (arith, low), is) in
    let down : y.number < x.number = above y.number ys x above_y (l, omega (arith, low'), is') in
    absurd (omega (arith, up, down))

pub rising_same : (xs ys : List Answer) → AreRising (map answer_number xs) → AreRising (map answer_number ys) → IsPermutation xs ys → xs ≡ ys
rising_same [] ys rx ry p = sym (nil_from_length ys (length_permutation [] ys p))
rising_same (x ∷ xs) [] rx ry p = let same : length {A = Answer} [] ≡ length (x ∷ xs) = length_permutation (x ∷ xs) [] p in absurd (omega (arith, same))
rising_same (x ∷ xs) (y ∷ ys) rx ry p =
    let there : Contains (x ∷ xs) y = Contains-permutation (y ∷ ys) (x ∷ xs) y (IsPermutation-sym (x ∷ xs) (y ∷ ys) p) (0, omega arith, refl) in
    let back : Contains (y ∷ ys) x = Contains-permutation (x ∷ xs) (y ∷ ys) x p (0, omega arith, refl) in
    let first : x ≡ y = same_first x y xs ys rx.0 ry.0 there back in
    let others : IsPermutation xs ys = IsPermutation-uncons y xs ys (subst (λ (a : Answer). IsPermutation (a ∷ xs) (y ∷ ys)) first p) in
    λ i. first i ∷ rising_same xs ys rx.1 ry.1 others i
