-- The bytes of a partition, and the sectors of a disk.
use Rattle.volume.proofs.Common.{◌≡◌, ◌<◌, ◌≤◌, ◌⊎◌, inl, inr, ℕ, zero, suc, ◌+◌, ◌-◌, ◌*◌, List, [], ◌∷◌, ◌++◌, Some, None, refl, sym, ◌∙◌, ap, subst, arith, append_assoc, length, take, drop, length-append, length-take, length-drop, All, slice_get, slice_range, concat, mul-le-mul_right, cases_lt, take-append-drop, drop-drop, take_at, drop_at, All-head, All-tail, All-take, All-drop, Extent, IsSector, splice, parted_at}
use Rattle.volume.specs.Calls.{sector_of}
use Rattle.volume.proofs.Disk.{same_items, same_take, same_drop, slice_get-drop, slice_get-take, slice_get-take_past, slice_get-range, slice_get-range_past}

-- SECTORS OF ONE SIZE, JOINED

concat-append : (xs ys : List (List ℕ)) → concat (xs ++ ys) ≡ concat xs ++ concat ys
concat-append [] ys = refl
concat-append (x ∷ xs) ys = ap (λ zs. x ++ zs) (concat-append xs ys) ∙ sym (append_assoc x (concat xs) (concat ys))

pub length-concat : (size : ℕ) (xs : List (List ℕ)) → All (IsSector size) xs → length (concat xs) ≡ length xs * size
length-concat size [] h = omega arith
length-concat size (x ∷ xs) h =
    let e : length x ≡ size = All-head (IsSector size) x xs h in
    let rest : length (concat xs) ≡ length xs * size = length-concat size xs (All-tail (IsSector size) x xs h) in
    length-append x (concat xs) ∙ sum (length x) (length (concat xs)) (length xs) size e rest
  where
    sum : (a b n s : ℕ) → a ≡ s → b ≡ n * s → a + b ≡ suc n * s
    sum a b n s p q = omega arith

-- as many sectors as these are as many bytes
pub take-concat : (size k : ℕ) (xs : List (List ℕ)) → All (IsSector size) xs → k ≤ length xs → take (k * size) (concat xs) ≡ concat (take k xs)
take-concat size k xs h fits =
    let front : length (concat (take k xs)) ≡ k * size =
    length-concat size (take k xs) (All-take (IsSector size) k xs h) ∙ ap (λ n. n * size) (length_front k xs fits) in
    ap (λ bytes. take (k * size) bytes) (ap concat (sym (take-append-drop k xs)) ∙ concat-append (take k xs) (drop k xs))
    ∙ take_at (concat (take k xs)) (concat (drop k xs)) (k * size) front
  where
    length_front : (k : ℕ) (xs : List (List ℕ)) → k ≤ length xs → length (take k xs) ≡ k
    length_front k xs h = simp length-take (omega arith)

pub drop-concat : (size k : ℕ) (xs : List (List ℕ)) → All (IsSector size) xs → k ≤ length xs → drop (k * size) (concat xs) ≡ concat (drop k xs)
drop-concat size k xs h fits =
    let front : length (concat (take k xs)) ≡ k * size =
    length-concat size (take k xs) (All-take (IsSector size) k xs h) ∙ ap (λ n. n * size) (length_front k xs fits) in
    ap (λ bytes. drop (k * size) bytes) (ap concat (sym (take-append-drop k xs)) ∙ concat-append (take k xs) (drop k xs))
    ∙ drop_at (concat (take k xs)) (concat (drop k xs)) (k * size) front
  where
    length_front : (k : ℕ) (xs : List (List ℕ)) → k ≤ length xs → length (take k xs) ≡ k
    length_front k xs h = simp length-take (omega arith)

-- a part of them
pub part-concat : (size first count : ℕ) (xs : List (List ℕ)) → All (IsSector size) xs → first + count ≤ length xs
    → slice_range (concat xs) (first * size) (first * size + count * size) ≡ concat (take count (drop first xs))
part-concat size first count xs h fits =
    let n : first * size + count * size - first * size ≡ count * size = omega arith in
    ap (λ m. take m (drop (first * size) (concat xs))) n
    ∙ ap (λ bytes. take (count * size) bytes) (drop-concat size first xs h (omega arith))
    ∙ take-concat size count (drop first xs) (All-drop (IsSector size) first xs h) (simp length-drop (omega arith))

-- sector by sector
at_first : (xs : List (List ℕ)) (k : ℕ) (x : List ℕ) → slice_get xs k ≡ Some x → drop k xs ≡ x ∷ drop (suc k) xs
at_first [] zero x h = absurd (let e : None ≡ Some x = h in cc)
at_first [] (suc k) x h = absurd (let e : None ≡ Some x = h in cc)
at_first (y ∷ ys) zero x h = let e : Some y ≡ Some x = h in let f : y ≡ x = cc in ap (λ z. z ∷ ys) f
at_first (y ∷ ys) (suc k) x h = at_first ys k x h

inside : (xs : List (List ℕ)) (k : ℕ) (x : List ℕ) → slice_get xs k ≡ Some x → k < length xs
inside [] zero x h = absurd (let e : None ≡ Some x = h in cc)
inside [] (suc k) x h = absurd (let e : None ≡ Some x = h in cc)
inside (y ∷ ys) zero x h = omega arith
inside (y ∷ ys) (suc k) x h = let l : k < length ys = inside ys k x h in omega arith

whole_at : (size : ℕ) (xs : List (List ℕ)) (k : ℕ) (x : List ℕ) → All (IsSector size) xs → slice_get xs k ≡ Some x → length x ≡ size
whole_at size [] zero x h is = absurd (let e : None ≡ Some x = is in cc)
whole_at size [] (suc k) x h is = absurd (let e : None ≡ Some x = is in cc)
whole_at size (y ∷ ys) zero x h is = let e : Some y ≡ Some x = is in let f : y ≡ x = cc in subst (λ z. length z ≡ size) f (All-head (IsSector size) y ys h)
whole_at size (y ∷ ys) (suc k) x h is = whole_at size ys k x (All-tail (IsSector size) y ys h) is

pub sector_at_place : (size : ℕ) (xs : List (List ℕ)) (k : ℕ) (x : List ℕ) → All (IsSector size) xs → slice_get xs k ≡ Some x → sector_of size k (concat xs) ≡ x
sector_at_place size xs k x h is =
    let low : k < length xs = inside xs k x is in
    let width : (k + 1) * size - k * size ≡ size = omega arith in
    ap (λ n. take n (drop (k * size) (concat xs))) width
    ∙ ap (λ bytes. take size bytes) (drop-concat size k xs h (omega arith) ∙ ap concat (at_first xs k x is))
    ∙ take_at x (concat (drop (suc k) xs)) size (whole_at size xs k x h is)

past_all : (bytes : List ℕ) (n : ℕ) → length bytes ≤ n → drop n bytes ≡ []
past_all [] zero h = refl
past_all [] (suc n) h = refl
past_all (b ∷ bytes) zero h = absurd (omega arith)
past_all (b ∷ bytes) (suc n) h = past_all bytes n (omega arith)

take_none : {X : Type 0} (xs : List X) (n : ℕ) → xs ≡ [] → take n xs ≡ []
take_none [] zero e = refl
take_none [] (suc n) e = refl
take_none (x ∷ xs) n e = absurd (let k : x ∷ xs ≡ [] = e in cc)

-- none past the last
pub sector_past : (size k count : ℕ) (bytes : List ℕ) → length bytes ≡ count * size → count ≤ k → sector_of size k bytes ≡ []
sector_past size k count bytes long high =
    let far : count * size ≤ k * size = mul-le-mul_right size high in
    let e : drop (k * size) bytes ≡ [] = past_all bytes (k * size) (omega arith) in
    take_none (drop (k * size) bytes) ((k + 1) * size - k * size) e

-- A CHANGE IN A PARTITION

length_range : (xs : List (List ℕ)) (first count : ℕ) → first + count ≤ length xs → length (slice_range xs first (first + count)) ≡ count
length_range xs first count h = simp (length-take, length-drop) (omega arith)

pub whole_range : (size : ℕ) (xs : List (List ℕ)) (from to : ℕ) → All (IsSector size) xs → All (IsSector size) (slice_range xs from to)
whole_range size xs from to h = All-take (IsSector size) (to - from) (drop from xs) (All-drop (IsSector size) from xs h)

pub length_bytes : (size : ℕ) (xs : List (List ℕ)) (first count : ℕ) → first + count ≤ length xs → All (IsSector size) xs → length (concat (slice_range xs first (first + count))) ≡ count * size
length_bytes size xs first count h whole =
    length-concat size (slice_range xs first (first + count)) (whole_range size xs first (first + count) whole) ∙ ap (λ n. n * size) (length_range xs first count h)

-- sectors of a part that begins so many sectors further on
pub part_of_range : (xs : List (List ℕ)) (first count a n : ℕ) → a + n ≤ count → take n (drop a (slice_range xs first (first + count))) ≡ slice_range xs (first + a) (first + a + n)
part_of_range xs first count a n fits =
    let part : List (List ℕ) = slice_range xs first (first + count) in
    same_items (take n (drop a part)) (slice_range xs (first + a) (first + a + n)) (λ k. elim (cases_lt k n) [
      | inl low ↦
          let e : first + (a + k) ≡ first + a + k = omega arith in
          slice_get-take (drop a part) n k low
          ∙ slice_get-drop part a k
          ∙ slice_get-range xs first count (a + k) (omega arith)
          ∙ ap (λ i. slice_get xs i) e
          ∙ sym (slice_get-range xs (first + a) n k low)
      | inr high ↦ slice_get-take_past (drop a part) n k high ∙ sym (slice_get-range_past xs (first + a) n k high)
    ])

-- bytes of the partition
pub bytes_read : (size : ℕ) (sectors : List (List ℕ)) (e : Extent) (a n : ℕ) → All (IsSector size) sectors → e.first + e.count ≤ length sectors → a + n ≤ e.count
    → concat (slice_range sectors (e.first + a) (e.first + a + n)) ≡ slice_range (parted_at size sectors e).bytes (a * size) (a * size + n * size)
bytes_read size sectors e a n whole in_disk fits =
    let part : List (List ℕ) = slice_range sectors e.first (e.first + e.count) in
    let long : length part ≡ e.count = length_range sectors e.first e.count in_disk in
    ap concat (sym (part_of_range sectors e.first e.count a n fits))
    ∙ sym (part-concat size a n part (whole_range size sectors e.first (e.first + e.count) whole) (omega arith))

-- only these sectors change
pub record Elsewhere (old new : List (List ℕ)) (from count : ℕ) : Type 0 where
  pub same : (i : ℕ) → (i < from) ⊎ (from + count ≤ i) → slice_get new i ≡ slice_get old i

-- and the bytes of the partition by them alone
pub around : (old new : List (List ℕ)) (size : ℕ) (e : Extent) (a count : ℕ) → a + count ≤ e.count → e.first + e.count ≤ length old → All (IsSector size) old
    → length (concat (slice_range new (e.first + a) (e.first + a + count))) ≡ count * size → Elsewhere old new (e.first + a) count
    → parted_at size new e ≡ record (parted_at size old e) { bytes = splice (parted_at size old e).bytes (a * size) (concat (slice_range new (e.first + a) (e.first + a + count))) }
around old new size e a count fits in_disk whole long elsewhere =
    let f : ℕ = e.first in
    let part : List (List ℕ) = slice_range old f (f + e.count) in
    let part' : List (List ℕ) = slice_range new f (f + e.count) in
    let moved : List (List ℕ) = slice_range new (f + a) (f + a + count) in
    let counted : length part ≡ e.count = length_range old f e.count in_disk in
    let whole' : All (IsSector size) part = whole_range size old f (f + e.count) whole in
    let front : take f new ≡ take f old = same_take new old f (λ i low. elsewhere.same i (inl (omega arith))) in
    let back : drop (f + e.count) new ≡ drop (f + e.count) old = same_drop new old (f + e.count) (λ i high. elsewhere.same i (inr (omega arith))) in
    let first : take a part' ≡ take a part =
    same_take part' part a (λ i low. slice_get-range new f e.count i (omega arith) ∙ elsewhere.same (f + i) (inl (omega arith)) ∙ sym (slice_get-range old f e.count i (omega arith))) in
    let last : drop (a + count) part' ≡ drop (a + count) part =
    same_drop part' part (a + count) (λ i high. elim (cases_lt i e.count) [
      | inl low ↦ slice_get-range new f e.count i low ∙ elsewhere.same (f + i) (inr (omega arith)) ∙ sym (slice_get-range old f e.count i low)
      | inr past ↦ slice_get-range_past new f e.count i past ∙ sym (slice_get-range_past old f e.count i past)
    ]) in
    let middle : take count (drop a part') ≡ moved = part_of_range new f e.count a count fits in
    let parted : concat part' ≡ concat (take a part') ++ (concat (take count (drop a part')) ++ concat (drop (a + count) part')) = in_parts part' a count in
    let bytes : concat part' ≡ splice (concat part) (a * size) (concat moved) =
    parted
    ∙ ap (λ xs. concat xs ++ (concat (take count (drop a part')) ++ concat (drop (a + count) part'))) first
    ∙ ap (λ xs. concat (take a part) ++ (concat xs ++ concat (drop (a + count) part'))) middle
    ∙ ap (λ xs. concat (take a part) ++ (concat moved ++ concat xs)) last
    ∙ ap (λ bs. bs ++ (concat moved ++ concat (drop (a + count) part))) (sym (take-concat size a part whole' (omega arith)))
    ∙ ap (λ bs. take (a * size) (concat part) ++ (concat moved ++ bs)) (sym (drop-concat size (a + count) part whole' (omega arith)))
    ∙ ap (λ n. take (a * size) (concat part) ++ (concat moved ++ drop n (concat part))) (sum (length (concat moved)) long) in
    rw (ap concat front, ap concat back, bytes) refl
  where
    in_parts : (xs : List (List ℕ)) (a n : ℕ) → concat xs ≡ concat (take a xs) ++ (concat (take n (drop a xs)) ++ concat (drop (a + n) xs))
    in_parts xs a n =
        let behind : drop n (drop a xs) ≡ drop (a + n) xs = drop-drop n a xs in
        ap concat (sym (take-append-drop a xs))
        ∙ concat-append (take a xs) (drop a xs)
        ∙ ap (λ bs. concat (take a xs) ++ bs) (ap concat (sym (take-append-drop n (drop a xs))) ∙ concat-append (take n (drop a xs)) (drop n (drop a xs)))
        ∙ ap (λ ys. concat (take a xs) ++ (concat (take n (drop a xs)) ++ concat ys)) behind

    sum : (m : ℕ) → m ≡ count * size → (a + count) * size ≡ a * size + m
    sum m h = omega arith
