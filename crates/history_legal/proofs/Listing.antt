-- A list of what a function gives for each number below another.
use Rattle.std.proofs.Common.{◌≡◌, ◌<◌, ◌≤◌, ℕ, zero, suc, List, [], ◌∷◌, refl, ap, arith, get_or, length}
use Rattle.std.specs.Prelude.{Some, slice_get}

abbrev pub listed : {X : Type 0} → (ℕ → X) → ℕ → List X
listed f zero = []
listed f (suc n) = f 0 ∷ listed (λ i. f (suc i)) n

pub listed_length : {X : Type 0} (f : ℕ → X) (n : ℕ) → length (listed f n) ≡ n
listed_length f zero = refl
listed_length f (suc n) = ap suc (listed_length (λ i. f (suc i)) n)

pub listed_gives : {X : Type 0} (f : ℕ → X) (n i : ℕ) (x : X) → slice_get (listed f n) i ≡ Some x → x ≡ f i
listed_gives f zero i x there = absurd (cc (there))
listed_gives f (suc n) zero x there = cc (there)
listed_gives f (suc n) (suc i) x there = listed_gives (λ k. f (suc k)) n i x there

pub listed_at : {X : Type 0} (f : ℕ → X) (n i : ℕ) (d : X) → i < n → get_or (listed f n) i d ≡ f i
listed_at f zero i d low = absurd (omega arith)
listed_at f (suc n) zero d low = refl
listed_at f (suc n) (suc i) d low = listed_at (λ k. f (suc k)) n i d (omega arith)

pub listed_past : {X : Type 0} (f : ℕ → X) (n i : ℕ) (d : X) → n ≤ i → get_or (listed f n) i d ≡ d
listed_past f zero i d past = refl
listed_past f (suc n) zero d past = absurd (omega arith)
listed_past f (suc n) (suc i) d past = listed_past (λ k. f (suc k)) n i d (omega arith)
