-- Bytes in whole sectors, read back as sectors.
use Rattle.std.proofs.Common.{◌≡◌, ℕ, zero, suc, ◌+◌, ◌-◌, ◌*◌, ◌≤◌, ◌<◌, List, [], ◌∷◌, ◌++◌, All, length, take, drop, replicate, slice_range, arith, refl, sym, ap, ◌∙◌}
use Rattle.std.proofs.lemmas.List.{take_at, drop_at, length-replicate, replicate-append-replicate, take-replicate, drop-replicate}
use Rattle.std.proofs.lemmas.List.Elements.{All-head, All-tail}
use Rattle.std.specs.List.{concat}
use Rattle.sector.specs.Extents.{IsSector}

abbrev pub zero_bytes : ℕ → List ℕ
zero_bytes n = replicate n 0

-- two beginnings of the same length are the same, and so is what stands behind them
record AreSame (x y rest others : List ℕ) : Type 0 where
  first : x ≡ y
  behind : rest ≡ others

parted : (x y rest others : List ℕ) → length x ≡ length y → x ++ rest ≡ y ++ others → AreSame x y rest others
parted x y rest others same e = record {
  first = sym (take_at x rest (length x) refl) ∙ (ap (λ (l : List ℕ). take (length x) l) e ∙ take_at y others (length x) (sym same));
  behind = sym (drop_at x rest (length x) refl) ∙ (ap (λ (l : List ℕ). drop (length x) l) e ∙ drop_at y others (length x) (sym same));
}

-- zeros in whole sectors are sectors of zeros
zeros : (size : ℕ) (xs : List (List ℕ)) → All (IsSector size) xs → concat xs ≡ zero_bytes (length xs * size) → xs ≡ replicate (length xs) (zero_bytes size)
zeros size [] = λ whole e. refl
zeros size (x ∷ xs) = λ whole e.
    let head : length x ≡ size = All-head (IsSector size) x xs whole in
    let long : length x ≡ length (zero_bytes size) = head ∙ sym (length-replicate {A = ℕ} size 0) in
    let cut : zero_bytes (length (x ∷ xs) * size) ≡ zero_bytes size ++ zero_bytes (length xs * size) =
    ap (λ (n : ℕ). zero_bytes n) (omega arith) ∙ sym (replicate-append-replicate size (length xs * size) 0) in
    let both = parted x (zero_bytes size) (concat xs) (zero_bytes (length xs * size)) long (e ∙ cut) in
    let others : xs ≡ replicate (length xs) (zero_bytes size) = zeros size xs (All-tail (IsSector size) x xs whole) both.behind in
    let first : x ≡ zero_bytes size = both.first in
    let k : x ∷ xs ≡ zero_bytes size ∷ replicate (length xs) (zero_bytes size) = cc in
    k

-- one sector, and zeros behind it
pub first_then_zeros : (size n : ℕ) (bytes : List ℕ) (xs : List (List ℕ)) → All (IsSector size) xs → length xs ≡ n → 0 < n → length bytes ≡ size
    → concat xs ≡ bytes ++ zero_bytes (n * size - length bytes) → xs ≡ bytes ∷ replicate (n - 1) (zero_bytes size)
first_then_zeros size n bytes [] = λ whole long some one e. absurd (omega arith)
first_then_zeros size n bytes (x ∷ xs) = λ whole long some one e.
    let head : length x ≡ size = All-head (IsSector size) x xs whole in
    let product : n * size ≡ (length xs + 1) * size = ap (λ (k : ℕ). k * size) (let m : n ≡ length xs + 1 = omega arith in m) in
    let left : n * size - length bytes ≡ length xs * size = omega arith in
    let both = parted x bytes (concat xs) (zero_bytes (n * size - length bytes)) (head ∙ sym one) e in
    let others : xs ≡ replicate (length xs) (zero_bytes size) =
    zeros size xs (All-tail (IsSector size) x xs whole) (both.behind ∙ ap (λ (k : ℕ). zero_bytes k) left) in
    let count : length xs ≡ n - 1 = omega arith in
    let same : replicate (length xs) (zero_bytes size) ≡ replicate (n - 1) (zero_bytes size) = ap (λ (k : ℕ). replicate k (zero_bytes size)) count in
    let first : x ≡ bytes = both.first in
    let k : x ∷ xs ≡ bytes ∷ replicate (n - 1) (zero_bytes size) = cc in
    k

-- what stands behind the first sector and some more
behind_first : (front : List ℕ) (m first : ℕ) (bytes : List ℕ) → 0 < first → drop first (bytes ∷ replicate m front) ≡ replicate (m - (first - 1)) front
behind_first front m zero bytes = λ some. absurd (omega arith)
behind_first front m (suc k) bytes = λ some. drop-replicate k m front ∙ ap (λ (i : ℕ). replicate (m - i) front) (omega arith)

-- sectors behind the first one are zeros
pub zeros_in : (size n first count : ℕ) (bytes : List ℕ) → 0 < first → first + count ≤ n
    → slice_range (bytes ∷ replicate (n - 1) (zero_bytes size)) first (first + count) ≡ replicate count (zero_bytes size)
zeros_in size n first count bytes behind inside =
    let front : List ℕ = zero_bytes size in
    let tail : drop first (bytes ∷ replicate (n - 1) front) ≡ replicate (n - 1 - (first - 1)) front =
    behind_first front (n - 1) first bytes behind in
    ap (λ (l : List (List ℕ)). take (first + count - first) l) tail
    ∙ (ap (λ (k : ℕ). take k (replicate (n - 1 - (first - 1)) front)) (let m : first + count - first ≡ count = omega arith in m)
    ∙ take-replicate count (n - 1 - (first - 1)) front (omega arith))
