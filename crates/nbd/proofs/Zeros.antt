-- Runs of zeros.
use Rattle.std.proofs.Common.{◌≡◌, ◌≤◌, ◌<◌, inl, inr, ℕ, ◌+◌, ◌-◌, ◌%◌, List, [], ◌∷◌, ◌++◌, length, take, drop, slice_range, replicate, Bool, true, false, not, ◌&&◌, length-take, length-drop, refl, sym, subst, ◌∙◌, ap, arith}
use mathlib.Core.Bool.{beq}
use Rattle.std.specs.Bool.{OnTrue}
use Rattle.std.specs.List.{list_all}
use Rattle.std.proofs.lemmas.Bool.{eqb-true}
use Rattle.std.proofs.lemmas.List.{take-take, take-append-drop, length-take-le, replicate-append-replicate}
use Rattle.nbd.specs.Content.{IsBlockSize}
use Rattle.nbd.specs.inside.Standing.{is_zero}
use Rattle.nbd.proofs.Clearing.{front_add}

both : (a b : Bool) → (a && b) ≡ true → (a ≡ true) × (b ≡ true)
both true b h = (refl, h)
both false b h = absurd (cc (h))

all_zero : (xs : List ℕ) → list_all is_zero xs ≡ true → xs ≡ replicate (length xs) 0
all_zero [] h = refl
all_zero (x ∷ xs) h =
    let parts = both (is_zero x) (list_all is_zero xs) h in
    ap (λ (n : ℕ). n ∷ xs) (eqb-true x 0 parts.0) ∙ ap (λ (l : List ℕ). 0 ∷ l) (all_zero xs parts.1)

-- a block that was looked at
pub zeros_there : (xs : List ℕ) (first count : ℕ) (r : Bool) → first + count ≤ length xs → r ≡ list_all is_zero (slice_range xs first (first + count))
    → OnTrue r (slice_range xs first (first + count) ≡ replicate count 0)
zeros_there xs first count true fits is =
    let long : length (slice_range xs first (first + count)) ≡ count = simp (length-take, length-drop) (omega arith) in
    all_zero (slice_range xs first (first + count)) (sym is) ∙ ap (λ (n : ℕ). replicate n 0) long
zeros_there xs first count false fits is = tt

take_more : (xs : List ℕ) (a b : ℕ) → a ≤ length xs → take (a + b) xs ≡ take a xs ++ take b (drop a xs)
take_more xs a b fits =
    ap (take (a + b)) (sym (take-append-drop a xs)) ∙ front_add (take a xs) (drop a xs) a b (length-take-le a xs fits)

pub same_by : (here all : Bool) → not (beq here all) ≡ false → here ≡ all
same_by true true h = refl
same_by true false h = absurd (cc (h))
same_by false true h = absurd (cc (h))
same_by false false h = refl

-- one more block that is like those in front of it
pub more_zeros : (xs : List ℕ) (count block : ℕ) (all here : Bool) → here ≡ all → count ≤ length xs → OnTrue all (take count xs ≡ replicate count 0)
    → OnTrue here (slice_range xs count (count + block) ≡ replicate block 0) → OnTrue all (take (count + block) xs ≡ replicate (count + block) 0)
more_zeros xs count block true true same fits front next =
    let n : count + block - count ≡ block = omega arith in
    take_more xs count block fits
    ∙ ap (λ (l : List ℕ). l ++ take block (drop count xs)) front
    ∙ ap (λ (l : List ℕ). replicate count 0 ++ l) (ap (λ (m : ℕ). take m (drop count xs)) (sym n) ∙ next)
    ∙ replicate-append-replicate count block 0
more_zeros xs count block true false same fits front next = absurd (cc (same))
more_zeros xs count block false here same fits front next = tt

-- the first block
pub first_zeros : (xs : List ℕ) (block : ℕ) (all : Bool) → OnTrue all (slice_range xs 0 (0 + block) ≡ replicate block 0) → OnTrue all (take block xs ≡ replicate block 0)
first_zeros xs block true is =
    let n : 0 + block - 0 ≡ block = omega arith in
    ap (λ (m : ℕ). take m xs) (sym n) ∙ is
first_zeros xs block false is = tt

-- whole blocks: where more are left, one is
pub block_fits : (block count all : ℕ) → IsBlockSize block → all % block ≡ 0 → count % block ≡ 0 → count < all → (count + block ≤ all) × ((count + block) % block ≡ 0)
block_fits block count all size whole here more = fits size whole here more
  where
    Fit : ℕ → Type 0
    Fit b = all % b ≡ 0 → count % b ≡ 0 → count < all → (count + b ≤ all) × ((count + b) % b ≡ 0)

    fits : IsBlockSize block → all % block ≡ 0 → count % block ≡ 0 → count < all → (count + block ≤ all) × ((count + block) % block ≡ 0)
    fits (inl s) = subst Fit (sym s) (λ a c m. (omega arith, omega arith))
    fits (inr s) = subst Fit (sym s) (λ a c m. (omega arith, omega arith))

-- the front of a part
pub zeros_in_part : (xs : List ℕ) (offset count some : ℕ) (all : Bool) → some ≤ count → OnTrue all (take some (slice_range xs offset (offset + count)) ≡ replicate some 0)
    → OnTrue all (slice_range xs offset (offset + some) ≡ replicate some 0)
zeros_in_part xs offset count some true few is =
    let n : offset + count - offset ≡ count = omega arith in
    let m : offset + some - offset ≡ some = omega arith in
    ap (λ (k : ℕ). take k (drop offset xs)) m ∙ sym (take-take some count (drop offset xs) few)
    ∙ ap (λ (k : ℕ). take some (take k (drop offset xs))) (sym n) ∙ is
zeros_in_part xs offset count some false few is = tt
