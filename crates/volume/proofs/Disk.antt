-- The sectors of a disk, and those of its partitions.
use Rattle.volume.proofs.Common.{◌≡◌, ◌<◌, ◌≤◌, ◌⊎◌, inl, inr, ℕ, zero, suc, ◌+◌, ◌-◌, List, [], ◌∷◌, Some, None, refl, sym, ◌∙◌, ap, arith, length, take, drop, map, All, Any, slice_get, slice_range, cases_lt, get_or_past, All-nil, All-cons, All-contains, Extent, IsIn, sectors_in, Rules, sectors_of, array_at, extent_at}

-- ITEMS BY THEIR PLACE

pub slice_get-drop : {X : Type 0} (xs : List X) (from k : ℕ) → slice_get (drop from xs) k ≡ slice_get xs (from + k)
slice_get-drop [] zero k = refl
slice_get-drop [] (suc from) k = refl
slice_get-drop (x ∷ xs) zero k = let e : 0 + k ≡ k = omega arith in ap (λ n. slice_get (x ∷ xs) n) (sym e)
slice_get-drop (x ∷ xs) (suc from) k = let e : suc from + k ≡ suc (from + k) = omega arith in slice_get-drop xs from k ∙ ap (λ n. slice_get (x ∷ xs) n) (sym e)

pub slice_get-take : {X : Type 0} (xs : List X) (n k : ℕ) → k < n → slice_get (take n xs) k ≡ slice_get xs k
slice_get-take [] zero k low = absurd (omega arith)
slice_get-take [] (suc n) k low = refl
slice_get-take (x ∷ xs) zero k low = absurd (omega arith)
slice_get-take (x ∷ xs) (suc n) zero low = refl
slice_get-take (x ∷ xs) (suc n) (suc k) low = slice_get-take xs n k (fewer low)
  where
    fewer : suc k < suc n → k < n
    fewer h = omega arith

pub slice_get-take_past : {X : Type 0} (xs : List X) (n k : ℕ) → n ≤ k → slice_get (take n xs) k ≡ None
slice_get-take_past [] zero k high = refl
slice_get-take_past [] (suc n) k high = refl
slice_get-take_past (x ∷ xs) zero k high = refl
slice_get-take_past (x ∷ xs) (suc n) zero high = absurd (omega arith)
slice_get-take_past (x ∷ xs) (suc n) (suc k) high = slice_get-take_past xs n k (fewer high)
  where
    fewer : suc n ≤ suc k → n ≤ k
    fewer h = omega arith

-- an item of a range
pub slice_get-range : {X : Type 0} (xs : List X) (first count k : ℕ) → k < count → slice_get (slice_range xs first (first + count)) k ≡ slice_get xs (first + k)
slice_get-range xs first count k low =
    let e : first + count - first ≡ count = omega arith in
    ap (λ n. slice_get (take n (drop first xs)) k) e ∙ slice_get-take (drop first xs) count k low ∙ slice_get-drop xs first k

-- and none past it
pub slice_get-range_past : {X : Type 0} (xs : List X) (first count k : ℕ) → count ≤ k → slice_get (slice_range xs first (first + count)) k ≡ None
slice_get-range_past xs first count k high =
    let e : first + count - first ≡ count = omega arith in
    ap (λ n. slice_get (take n (drop first xs)) k) e ∙ slice_get-take_past (drop first xs) count k high

-- lists with the same items at all places
pub same_items : {X : Type 0} (xs ys : List X) → ((i : ℕ) → slice_get xs i ≡ slice_get ys i) → xs ≡ ys
same_items [] [] h = refl
same_items [] (y ∷ ys) h = let e : None ≡ Some y = h 0 in cc
same_items (x ∷ xs) [] h = let e : Some x ≡ None = h 0 in cc
same_items (x ∷ xs) (y ∷ ys) h =
    let e : Some x ≡ Some y = h 0 in
    let rest : xs ≡ ys = same_items xs ys (λ i. h (suc i)) in
    cc

-- PARTS OF LISTS THAT AGREE

pub same_take : {X : Type 0} (xs ys : List X) (n : ℕ) → ((i : ℕ) → i < n → slice_get xs i ≡ slice_get ys i) → take n xs ≡ take n ys
same_take xs ys n h =
    same_items (take n xs) (take n ys) (λ i. elim (cases_lt i n) [
      | inl low ↦ slice_get-take xs n i low ∙ h i low ∙ sym (slice_get-take ys n i low)
      | inr high ↦ slice_get-take_past xs n i high ∙ sym (slice_get-take_past ys n i high)
    ])

pub same_drop : {X : Type 0} (xs ys : List X) (n : ℕ) → ((i : ℕ) → n ≤ i → slice_get xs i ≡ slice_get ys i) → drop n xs ≡ drop n ys
same_drop xs ys n h = same_items (drop n xs) (drop n ys) (λ i. slice_get-drop xs n i ∙ h (n + i) (omega arith) ∙ sym (slice_get-drop ys n i))

-- PARTITIONS

pub extent_past : (partitions : List Extent) (p : ℕ) → length partitions ≤ p → (extent_at partitions p).count ≡ 0
extent_past partitions p past = ap (λ (e : Extent). e.count) (get_or_past partitions p (record { first = 0; count = 0 }) past)

pub is_there : (partitions : List Extent) (p : ℕ) → 0 < (extent_at partitions p).count → p < length partitions
is_there partitions p some = elim (cases_lt p (length partitions)) [
  | inl low ↦ low
  | inr past ↦ let e : (extent_at partitions p).count ≡ 0 = extent_past partitions p past in absurd (omega arith)
]

pub sectors_of-extent : (rules : Rules) (p : ℕ) → sectors_of rules (Some p) ≡ (extent_at rules.partitions p).count
sectors_of-extent rules p = by rules.partitions p
  where
    by : (partitions : List Extent) (p : ℕ) → (elim (slice_get partitions p) [ Some extent ↦ extent.count | None ↦ 0 ]) ≡ (extent_at partitions p).count
    by [] p = refl
    by (e ∷ es) zero = refl
    by (e ∷ es) (suc p) = by es p

pub array_is : (sectors : List (List ℕ)) (partitions : List Extent) (p : ℕ) → p < length partitions
    → array_at (map (sectors_in sectors) partitions) p ≡ sectors_in sectors (extent_at partitions p)
array_is sectors [] p low = absurd (omega arith)
array_is sectors (e ∷ es) zero low = refl
array_is sectors (e ∷ es) (suc p) low = array_is sectors es p (fewer low)
  where
    fewer : suc p < length (e ∷ es) → p < length es
    fewer h = omega arith

-- a sector of a partition on the disk
pub at_partition : (sectors : List (List ℕ)) (partitions : List Extent) (p k : ℕ) → k < (extent_at partitions p).count
    → slice_get (array_at (map (sectors_in sectors) partitions) p) k ≡ slice_get sectors ((extent_at partitions p).first + k)
at_partition sectors partitions p k low =
    ap (λ xs. slice_get xs k) (array_is sectors partitions p (is_there partitions p (omega arith)))
    ∙ slice_get-range sectors (extent_at partitions p).first (extent_at partitions p).count k low

-- the partition of a sector, if it has one
pub record HasPartition (partitions : List Extent) (i : ℕ) : Type 0 where
  pub p : ℕ
  pub k : ℕ
  pub inside : k < (extent_at partitions p).count
  pub is_sector : i ≡ (extent_at partitions p).first + k

abbrev IsOutside : ℕ → Extent → Type 0
IsOutside i e = IsIn i e → ⊥

found_first : (e : Extent) (es : List Extent) (i : ℕ) → IsIn i e → HasPartition (e ∷ es) i
found_first e es i h = record { p = 0; k = i - e.first; inside = omega (arith, h); is_sector = omega (arith, h) }

found_later : (e : Extent) (es : List Extent) (i : ℕ) → HasPartition es i → HasPartition (e ∷ es) i
found_later e es i h = record { p = suc h.p; k = h.k; inside = h.inside; is_sector = h.is_sector }

is_in : (i : ℕ) (e : Extent) → IsIn i e ⊎ IsOutside i e
is_in i e = elim (cases_lt i e.first) [
  | inl low ↦ inr (λ h. absurd (omega (arith, h.0)))
  | inr from ↦ elim (cases_lt i (e.first + e.count)) [
    | inl below ↦ inl (from, below)
    | inr past ↦ inr (λ h. absurd (omega (arith, h.1)))
  ]
]

pub partition_or_none : (partitions : List Extent) (i : ℕ) → HasPartition partitions i ⊎ All (IsOutside i) partitions
partition_or_none [] i = inr (All-nil (IsOutside i))
partition_or_none (e ∷ es) i = elim (is_in i e) [
  | inl here ↦ inl (found_first e es i here)
  | inr not ↦ elim (partition_or_none es i) [
    | inl later ↦ inl (found_later e es i later)
    | inr none ↦ inr (All-cons (IsOutside i) e es not none)
  ]
]

pub none_of_any : (partitions : List Extent) (i : ℕ) → All (IsOutside i) partitions → Any (IsIn i) partitions → ⊥
none_of_any partitions i none h = All-contains (IsOutside i) partitions h.1 none (h.0, h.2, h.3) h.4

-- a sector that no array shows changed, and that did not change outside them
pub same_sector : (old new : List (List ℕ)) (partitions : List Extent) (i : ℕ)
    → ((p k : ℕ) → k < (extent_at partitions p).count → i ≡ (extent_at partitions p).first + k
    → slice_get (array_at (map (sectors_in new) partitions) p) k ≡ slice_get (array_at (map (sectors_in old) partitions) p) k)
    → ((Any (IsIn i) partitions → ⊥) → slice_get new i ≡ slice_get old i)
    → slice_get new i ≡ slice_get old i
same_sector old new partitions i inside outside = elim (partition_or_none partitions i) [
  | inl h ↦
      ap (λ n. slice_get new n) h.is_sector ∙ sym (at_partition new partitions h.p h.k h.inside) ∙ inside h.p h.k h.inside h.is_sector
      ∙ at_partition old partitions h.p h.k h.inside ∙ ap (λ n. slice_get old n) (sym h.is_sector)
  | inr none ↦ outside (none_of_any partitions i none)
]

-- with the same arrays
pub same_sectors : (old new : List (List ℕ)) (partitions : List Extent) → map (sectors_in new) partitions ≡ map (sectors_in old) partitions
    → ((i : ℕ) → (Any (IsIn i) partitions → ⊥) → slice_get new i ≡ slice_get old i) → new ≡ old
same_sectors old new partitions arrays outside =
    same_items new old (λ i. same_sector old new partitions i (λ p k low is. ap (λ xs. slice_get (array_at xs p) k) arrays) (outside i))
