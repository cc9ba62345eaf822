-- The bytes of a write, sector by sector.
use Rattle.machine_laws.proofs.Common.{◌≡◌, ◌<◌, ◌≤◌, ℕ, zero, suc, ◌+◌, ◌-◌, ◌*◌, List, [], ◌∷◌, ◌++◌, Some, refl, sym, ◌∙◌, ap, subst, arith, length, take, drop, get_or, length-drop, All, slice_get, slice_range, concat, drop-drop, drop-take, take-take, take_at, drop_at, take-append-drop, All-head, All-tail, IsSector}

-- the sector at a place of bytes laid end to end
abbrev pub chunk : ℕ → ℕ → List ℕ → List ℕ
chunk size k bytes = take size (drop (k * size) bytes)

chunk_next : (size k : ℕ) (bytes : List ℕ) → chunk size k (drop size bytes) ≡ chunk size (suc k) bytes
chunk_next size k bytes =
    let n : size + k * size ≡ suc k * size = omega arith in
    ap (λ ys. take size ys) (drop-drop (k * size) size bytes ∙ ap (λ m. drop m bytes) n)

chunk_first : (size : ℕ) (bytes : List ℕ) → chunk size 0 bytes ≡ take size bytes
chunk_first size bytes = let n : 0 * size ≡ 0 = omega arith in ap (λ m. take size (drop m bytes)) n

-- sectors of one size are the chunks of what they join to
pub concat_chunk : (size : ℕ) (sectors : List (List ℕ)) (k : ℕ) (d : List ℕ) → All (IsSector size) sectors → k < length sectors → get_or sectors k d ≡ chunk size k (concat sectors)
concat_chunk size [] k d sized low = absurd (omega arith)
concat_chunk size (x ∷ xs) zero d sized low =
    let e : length x ≡ size = All-head (IsSector size) x xs sized in
    sym (chunk_first size (x ++ concat xs) ∙ take_at x (concat xs) size e)
concat_chunk size (x ∷ xs) (suc k) d sized low =
    let e : length x ≡ size = All-head (IsSector size) x xs sized in
    let rest : get_or xs k d ≡ chunk size k (concat xs) = concat_chunk size xs k d (All-tail (IsSector size) x xs sized) (fewer low) in
    rest ∙ ap (λ ys. chunk size k ys) (sym (drop_at x (concat xs) size e)) ∙ chunk_next size k (x ++ concat xs)
  where
    fewer : suc k < length (x ∷ xs) → k < length xs
    fewer h = omega arith

-- a chunk of a range of chunks
pub range_chunk : (size first count k : ℕ) (bytes : List ℕ) → k < count → chunk size k (slice_range bytes (first * size) ((first + count) * size)) ≡ chunk size (first + k) bytes
range_chunk size first count k bytes low =
    let width : (first + count) * size - first * size ≡ k * size + (size + (count - suc k) * size) = wide first size k (count - suc k) count (omega arith) in
    let cut : drop (k * size) (take (k * size + (size + (count - suc k) * size)) (drop (first * size) bytes)) ≡ take (size + (count - suc k) * size) (drop (k * size) (drop (first * size) bytes)) =
    drop-take (k * size) (size + (count - suc k) * size) (drop (first * size) bytes) in
    let short : size ≤ size + (count - suc k) * size = omega arith in
    let sum : first * size + k * size ≡ (first + k) * size = omega arith in
    ap (λ w. take size (drop (k * size) (take w (drop (first * size) bytes)))) width
    ∙ ap (λ ys. take size ys) cut
    ∙ take-take size (size + (count - suc k) * size) (drop (k * size) (drop (first * size) bytes)) short
    ∙ ap (λ ys. take size ys) (drop-drop (k * size) (first * size) bytes ∙ ap (λ m. drop m bytes) sum)
  where
    wide : (first size k more count : ℕ) → count ≡ suc k + more → (first + count) * size - first * size ≡ k * size + (size + more * size)
    wide first size k more count e = rw e (omega arith)

-- an item that is there, and those behind it
pub drop_is : (from : ℕ) (array : List (List ℕ)) (x : List ℕ) → slice_get array from ≡ Some x → drop from array ≡ x ∷ drop (suc from) array
drop_is zero [] x h = cc (h)
drop_is zero (y ∷ ys) x h = cc (h)
drop_is (suc from) [] x h = cc (h)
drop_is (suc from) (y ∷ ys) x h = drop_is from ys x h

-- sectors that are the chunks join to the bytes
pub chunks_join : (size n from : ℕ) (array : List (List ℕ)) (bytes : List ℕ) → length bytes ≡ n * size → ((k : ℕ) → k < n → slice_get array (from + k) ≡ Some (chunk size k bytes))
    → concat (take n (drop from array)) ≡ bytes
chunks_join size zero from array [] long chunks = refl
chunks_join size zero from array (b ∷ bs) long chunks = absurd (omega arith)
chunks_join size (suc n) from array bytes long chunks =
    let first : slice_get array from ≡ Some (take size bytes) = subst (λ m. slice_get array m ≡ Some (take size bytes)) (plus_none from) (chunks 0 (omega arith) ∙ ap Some (chunk_first size bytes)) in
    let rest : concat (take n (drop (suc from) array)) ≡ drop size bytes = chunks_join size n (suc from) array (drop size bytes) (shorter long) (λ k low. next k (chunks (suc k) (more low))) in
    let e : drop from array ≡ take size bytes ∷ drop (suc from) array = drop_is from array (take size bytes) first in
    rw e (ap (λ ys. take size bytes ++ ys) rest ∙ take-append-drop size bytes)
  where
    plus_none : (m : ℕ) → m + 0 ≡ m
    plus_none m = omega arith

    shorter : length bytes ≡ suc n * size → length (drop size bytes) ≡ n * size
    shorter e = simp length-drop (omega arith)

    more : {k n : ℕ} → k < n → suc k < suc n
    more h = omega arith

    next : (k : ℕ) → slice_get array (from + suc k) ≡ Some (chunk size (suc k) bytes) → slice_get array (suc from + k) ≡ Some (chunk size k (drop size bytes))
    next k h = let n : from + suc k ≡ suc from + k = omega arith in rw chunk_next (rw n at h)
