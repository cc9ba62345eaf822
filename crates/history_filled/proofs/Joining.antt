-- Sectors one behind the other, and each of them.
use Rattle.std.proofs.Common.{◌≡◌, ◌<◌, ◌≤◌, ℕ, zero, suc, ◌+◌, ◌-◌, ◌*◌, List, [], ◌++◌, refl, sym, ◌∙◌, ap, subst, arith, length, take, drop, length-append}
use Rattle.std.specs.Prelude.{slice_range}
use Rattle.std.proofs.lemmas.List.{take_at, drop_at, drop-drop, length-take-le, length-drop}
use Rattle.std.proofs.Math.Seq.{take-nil, drop-nil}

-- what f gives for each number below another
abbrev pub joined : (ℕ → List ℕ) → ℕ → List ℕ
joined f zero = []
joined f (suc n) = f 0 ++ joined (λ k. f (suc k)) n

pub joined_length : (size : ℕ) (f : ℕ → List ℕ) (n : ℕ) → ((k : ℕ) → length (f k) ≡ size) → length (joined f n) ≡ n * size
joined_length size f zero each = omega arith
joined_length size f (suc n) each =
    let rest : length (joined (λ k. f (suc k)) n) ≡ n * size = joined_length size (λ k. f (suc k)) n (λ k. each (suc k)) in
    let both : length (f 0 ++ joined (λ k. f (suc k)) n) ≡ length (f 0) + length (joined (λ k. f (suc k)) n) = length-append (f 0) (joined (λ k. f (suc k)) n) in
    let first : length (f 0) ≡ size = each 0 in
    let all : suc n * size ≡ size + n * size = one_more n size in
    omega arith
  where
    one_more : (n size : ℕ) → suc n * size ≡ size + n * size
    one_more n size = grind arith

joined_at : (size : ℕ) (f : ℕ → List ℕ) (n k at : ℕ) → ((j : ℕ) → length (f j) ≡ size) → k < n → at ≡ k * size → take size (drop at (joined f n)) ≡ f k
joined_at size f zero k at each low is = absurd (omega arith)
joined_at size f (suc n) zero at each low is =
    let none : at ≡ 0 = omega arith in
    ap (λ a. take size (drop a (f 0 ++ joined (λ j. f (suc j)) n))) none ∙ take_at (f 0) (joined (λ j. f (suc j)) n) size (each 0)
joined_at size f (suc n) (suc k) at each low is =
    let two : at ≡ size + k * size = is ∙ one_more k size in
    ap (λ a. take size (drop a (f 0 ++ joined (λ j. f (suc j)) n))) two
    ∙ ap (take size) (sym (drop-drop (k * size) size (f 0 ++ joined (λ j. f (suc j)) n)))
    ∙ ap (λ xs. take size (drop (k * size) xs)) (drop_at (f 0) (joined (λ j. f (suc j)) n) size (each 0))
    ∙ joined_at size (λ j. f (suc j)) n k (k * size) (λ j. each (suc j)) (omega arith) refl
  where
    one_more : (n size : ℕ) → suc n * size ≡ size + n * size
    one_more n size = grind arith

-- how long a sector's range is
pub range_is : (k size : ℕ) → (k + 1) * size - k * size ≡ size
range_is k size = let all : (k + 1) * size ≡ k * size + size = one_more k size in omega arith
  where
    one_more : (n size : ℕ) → (n + 1) * size ≡ n * size + size
    one_more n size = grind arith

pub joined_part : (size : ℕ) (f : ℕ → List ℕ) (n k : ℕ) → ((j : ℕ) → length (f j) ≡ size) → k < n → slice_range (joined f n) (k * size) ((k + 1) * size) ≡ f k
joined_part size f n k each low =
    ap (λ count. take count (drop (k * size) (joined f n))) (range_is k size) ∙ joined_at size f n k (k * size) each low refl

-- a part of bytes for more sectors is a sector long
pub part_length : (size : ℕ) (bytes : List ℕ) (n k : ℕ) → length bytes ≡ n * size → k < n → length (slice_range bytes (k * size) ((k + 1) * size)) ≡ size
part_length size bytes n k long low =
    ap (λ count. length (take count (drop (k * size) bytes))) (range_is k size)
    ∙ length-take-le size (drop (k * size) bytes) (subst (λ l. size ≤ l) (sym (length-drop (k * size) bytes)) (room n k size low long))
  where
    times : (n k size : ℕ) → k < n → (rest : ℕ) × (n * size ≡ k * size + size + rest)
    times n k size low = ((n - suc k) * size, ap (λ m. m * size) (parts n k low) ∙ spread k (n - suc k) size)
      where
        parts : (n k : ℕ) → k < n → n ≡ k + 1 + (n - suc k)
        parts n k low = omega arith

        spread : (k rest size : ℕ) → (k + 1 + rest) * size ≡ k * size + size + rest * size
        spread k rest size = grind arith

    room : (n k size : ℕ) → k < n → length bytes ≡ n * size → size ≤ length bytes - k * size
    room n k size low long = let t : (rest : ℕ) × (n * size ≡ k * size + size + rest) = times n k size low in let e : n * size ≡ k * size + size + t.0 = t.1 in omega arith

-- no bytes have no part
pub none_part : (from to : ℕ) → slice_range {X = ℕ} [] from to ≡ []
none_part from to = ap (take (to - from)) (drop-nil from) ∙ take-nil (to - from)
