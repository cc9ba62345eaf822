-- The partitions' sectors among the disk's, read and written.
use Rattle.machine_laws.proofs.Common.{◌≡◌, ◌<◌, ◌≤◌, ◌⊎◌, inl, inr, ℕ, zero, suc, ◌+◌, ◌-◌, List, [], ◌∷◌, Some, None, refl, sym, ◌∙◌, ap, arith, map, length, take, drop, get_or, length-take, length-drop, All, AllPairs, slice_get, slice_range, slice_set, cases_lt, get_or-take, get_or-drop, drop-take, take-take, drop-drop, same_lists, All-head, All-tail, Extent, splice, AreApart, IsPartition, sectors_in, length-splice, range_apart, get_or-splice_inside, get_or-splice_below, get_or-splice_above}

-- the part of this many items from a place on
abbrev pub part : {X : Type 0} → List X → ℕ → ℕ → List X
part xs first count = take count (drop first xs)

pub get_or-part : {X : Type 0} (xs : List X) (first count k : ℕ) (d : X) → k < count → get_or (part xs first count) k d ≡ get_or xs (first + k) d
get_or-part xs first count k d low = get_or-take count (drop first xs) k d low ∙ get_or-drop first xs k d

pub length-part : {X : Type 0} (xs : List X) (first count : ℕ) → first + count ≤ length xs → length (part xs first count) ≡ count
length-part xs first count fits = simp (length-take, length-drop) (omega arith)

-- a part of a part
pub part-part : {X : Type 0} (xs : List X) (first count a n : ℕ) → a + n ≤ count → part (part xs first count) a n ≡ part xs (first + a) n
part-part xs first count a n fits =
    let split : count ≡ a + (count - a) = omega arith in
    let short : n ≤ count - a = omega arith in
    ap (λ m. take n (drop a (take m (drop first xs)))) split
    ∙ ap (λ ys. take n ys) (drop-take a (count - a) (drop first xs))
    ∙ take-take n (count - a) (drop a (drop first xs)) short
    ∙ ap (λ ys. take n ys) (drop-drop a first xs)

-- what is put into a part of the whole is put into the part
pub part-splice : {X : Type 0} (xs : List X) (first count a : ℕ) (more : List X) → a + length more ≤ count → first + count ≤ length xs
    → part (splice xs (first + a) more) first count ≡ splice (part xs first count) a more
part-splice xs first count a more fits inside =
    let whole : length (splice xs (first + a) more) ≡ length xs = length-splice xs (first + a) more (omega arith) in
    let old : length (part xs first count) ≡ count = length-part xs first count inside in
    let left : length (part (splice xs (first + a) more) first count) ≡ count = length-part (splice xs (first + a) more) first count (omega arith) in
    let right : length (splice (part xs first count) a more) ≡ count = length-splice (part xs first count) a more (omega arith) ∙ old in
    same_lists _ _ (left ∙ sym right) (λ k d low.
    let k_low : k < count = omega arith in
    let a_part : a ≤ length (part xs first count) = omega arith in
    let a_whole : first + a ≤ length xs = omega arith in
    get_or-part (splice xs (first + a) more) first count k d k_low
    ∙ elim (cases_lt k a) [
      | inl before ↦
          get_or-splice_below xs (first + a) more (first + k) d a_whole (omega arith)
          ∙ sym (get_or-splice_below (part xs first count) a more k d a_part before ∙ get_or-part xs first count k d k_low)
      | inr from ↦ elim (cases_lt k (a + length more)) [
        | inl within ↦
            let e : first + k - (first + a) ≡ k - a = omega arith in
            get_or-splice_inside xs (first + a) more (first + k) d a_whole (omega arith) (omega arith)
            ∙ ap (λ m. get_or more m d) e
            ∙ sym (get_or-splice_inside (part xs first count) a more k d a_part from within)
        | inr past ↦
            get_or-splice_above xs (first + a) more (first + k) d a_whole (omega arith)
            ∙ sym (get_or-splice_above (part xs first count) a more k d a_part past ∙ get_or-part xs first count k d k_low)
      ]
    ])

pub slice_is_part : {X : Type 0} (xs : List X) (first count : ℕ) → slice_range xs first (first + count) ≡ part xs first count
slice_is_part xs first count = let e : first + count - first ≡ count = omega arith in ap (λ m. take m (drop first xs)) e

-- THE PARTITION'S SECTORS AMONG THE DISK'S

-- as the rules say it: how many sectors a partition has, and where one of them is
abbrev pub count_at : List Extent → ℕ → ℕ
count_at partitions p = elim (slice_get partitions p) [ Some extent ↦ extent.count | None ↦ 0 ]

abbrev pub home_at : List Extent → ℕ → ℕ → ℕ
home_at partitions p i = elim (slice_get partitions p) [ Some extent ↦ extent.first + i | None ↦ i ]

abbrev pub parts : List (List ℕ) → List Extent → List (List (List ℕ))
parts disk partitions = map (sectors_in disk) partitions

-- sectors of a partition are sectors of the disk
pub read_at : (partitions : List Extent) (p a n : ℕ) (disk : List (List ℕ)) → 0 < n → a + n ≤ count_at partitions p
    → slice_range (get_or (parts disk partitions) p []) a (a + n) ≡ slice_range disk (home_at partitions p a) (home_at partitions p a + n)
read_at [] zero a n disk some fits = absurd (omega arith)
read_at [] (suc p) a n disk some fits = absurd (omega arith)
read_at (e ∷ es) (suc p) a n disk some fits = read_at es p a n disk some fits
read_at (e ∷ es) zero a n disk some fits =
    ap (λ ys. slice_range ys a (a + n)) (slice_is_part disk e.first e.count)
    ∙ slice_is_part (part disk e.first e.count) a n
    ∙ part-part disk e.first e.count a n fits
    ∙ sym (slice_is_part disk (e.first + a) n)

-- and inside it
pub home_inside : (partitions : List Extent) (p a n size : ℕ) → 0 < n → a + n ≤ count_at partitions p → All (IsPartition size) partitions → home_at partitions p a + n ≤ size
home_inside [] zero a n size some fits all = absurd (omega arith)
home_inside [] (suc p) a n size some fits all = absurd (omega arith)
home_inside (e ∷ es) (suc p) a n size some fits all = home_inside es p a n size some fits (All-tail (IsPartition size) e es all)
home_inside (e ∷ es) zero a n size some fits all = inside (All-head (IsPartition size) e es all).inside
  where
    inside : e.first + e.count ≤ size → e.first + a + n ≤ size
    inside h = omega arith

apart_at : (e : Extent) (es : List Extent) (p a n : ℕ) → 0 < n → a + n ≤ count_at es p → All (AreApart e) es → (home_at es p a + n ≤ e.first) ⊎ (e.first + e.count ≤ home_at es p a)
apart_at e [] zero a n some fits all = absurd (omega arith)
apart_at e [] (suc p) a n some fits all = absurd (omega arith)
apart_at e (x ∷ xs) (suc p) a n some fits all = apart_at e xs p a n some fits (All-tail (AreApart e) x xs all)
apart_at e (x ∷ xs) zero a n some fits all =
    elim (All-head (AreApart e) x xs all) [
      | inl before ↦ inr (after before)
      | inr behind ↦ inl (ahead behind)
    ]
  where
    after : e.first + e.count ≤ x.first → e.first + e.count ≤ x.first + a
    after h = omega arith

    ahead : x.first + x.count ≤ e.first → x.first + a + n ≤ e.first
    ahead h = omega arith

-- a partition that the write doesn't meet
other_same : (disk : List (List ℕ)) (first : ℕ) (more : List (List ℕ)) (e : Extent) → first + length more ≤ length disk → (first + length more ≤ e.first) ⊎ (e.first + e.count ≤ first)
    → sectors_in (splice disk first more) e ≡ sectors_in disk e
other_same disk first more e fits apart =
    slice_is_part (splice disk first more) e.first e.count ∙ range_apart disk first more e.first e.count fits apart ∙ sym (slice_is_part disk e.first e.count)

others_same : (disk : List (List ℕ)) (first : ℕ) (more : List (List ℕ)) (e : Extent) (es : List Extent) → first + length more ≤ length disk → e.first ≤ first → first + length more ≤ e.first + e.count
    → All (AreApart e) es → parts (splice disk first more) es ≡ parts disk es
others_same disk first more e [] fits from below all = refl
others_same disk first more e (x ∷ xs) fits from below all =
    let one : sectors_in (splice disk first more) x ≡ sectors_in disk x = other_same disk first more x fits (by (All-head (AreApart e) x xs all)) in
    let rest : parts (splice disk first more) xs ≡ parts disk xs = others_same disk first more e xs fits from below (All-tail (AreApart e) x xs all) in
    rw (one, rest) refl
  where
    by : AreApart e x → (first + length more ≤ x.first) ⊎ (x.first + x.count ≤ first)
    by (inl before) = inl (omega arith)
    by (inr behind) = inr (omega arith)

apart_head : (e : Extent) (es : List Extent) → AllPairs AreApart (e ∷ es) → All (AreApart e) es
apart_head e es h i d low = h 0 (suc i) d (omega arith) (omega arith)

apart_tail : (e : Extent) (es : List Extent) → AllPairs AreApart (e ∷ es) → AllPairs AreApart es
apart_tail e es h i j d lt within = h (suc i) (suc j) d (omega arith) (omega arith)

-- what is written into a partition is written into the disk, and into no other
pub write_at : (partitions : List Extent) (p a : ℕ) (more disk : List (List ℕ)) → 0 < length more → a + length more ≤ count_at partitions p
    → All (IsPartition (length disk)) partitions → AllPairs AreApart partitions
    → parts (splice disk (home_at partitions p a) more) partitions ≡ slice_set (parts disk partitions) p (splice (get_or (parts disk partitions) p []) a more)
write_at [] zero a more disk some fits all apart = absurd (omega arith)
write_at [] (suc p) a more disk some fits all apart = absurd (omega arith)
write_at (e ∷ es) zero a more disk some fits all apart =
    let inside : e.first + e.count ≤ length disk = (All-head (IsPartition (length disk)) e es all).inside in
    let head : sectors_in (splice disk (e.first + a) more) e ≡ splice (sectors_in disk e) a more =
    slice_is_part (splice disk (e.first + a) more) e.first e.count ∙ part-splice disk e.first e.count a more fits inside
    ∙ ap (λ ys. splice ys a more) (sym (slice_is_part disk e.first e.count)) in
    let rest : parts (splice disk (e.first + a) more) es ≡ parts disk es = others_same disk (e.first + a) more e es (omega arith) (omega arith) (omega arith) (apart_head e es apart) in
    rw (head, rest) refl
write_at (e ∷ es) (suc p) a more disk some fits all apart =
    let within : home_at es p a + length more ≤ length disk = home_inside es p a (length more) (length disk) some fits (All-tail (IsPartition (length disk)) e es all) in
    let head : sectors_in (splice disk (home_at es p a) more) e ≡ sectors_in disk e = other_same disk (home_at es p a) more e within (apart_at e es p a (length more) some fits (apart_head e es apart)) in
    let rest : _ ≡ _ = write_at es p a more disk some fits (All-tail (IsPartition (length disk)) e es all) (apart_tail e es apart) in
    rw head (ap (λ ys. sectors_in disk e ∷ ys) rest)
