-- Bytes cut into sectors: a part of the sectors is the cut of that part of the bytes.
use Rattle.std.proofs.Common.{◌≡◌, ℕ, zero, suc, ◌+◌, ◌-◌, ◌*◌, ◌≤◌, List, ◌∷◌, ◌++◌, length, take, drop, slice_range, replicate, arith, refl, sym, ap, ◌∙◌, zero-add, suc-add, mul-le-mul_right, length-append, length-drop}
use Rattle.std.proofs.lemmas.List.{take-append-le, drop-append-le, take_at, drop_at, take_all, take-append-drop, length-take-le, append_assoc, nil_from_length, take-replicate, drop-replicate}
use Rattle.std.specs.List.{concat}
use Rattle.std.specs.Simd.{first_chunks}
use Rattle.sector.specs.Splice.{splice}
use borrow.Rule.Slice.PartMut.{put_mid}

pub length-first_chunks : (size count : ℕ) (bytes : List ℕ) → length (first_chunks size count bytes) ≡ count
length-first_chunks size zero bytes = refl
length-first_chunks size (suc n) bytes = ap (λ (k : ℕ). suc k) (length-first_chunks size n (drop size bytes))

-- the cut of two parts, the first of whole sectors
first_chunks-append : (size first count : ℕ) (xs ys : List ℕ) → length xs ≡ first * size
    → first_chunks size (first + count) (xs ++ ys) ≡ first_chunks size first xs ++ first_chunks size count ys
first_chunks-append size zero count xs ys e = rw zero-add (ap (λ (l : List ℕ). first_chunks size count l) (ap (λ (l : List ℕ). l ++ ys) (nil_from_length xs (omega arith))))
first_chunks-append size (suc n) count xs ys e =
    let long : size ≤ length xs = omega arith in
    let rest : length (drop size xs) ≡ n * size = omega (arith, length-drop size xs) in
    let head : take size (xs ++ ys) ≡ take size xs = take-append-le size xs ys long in
    let tail : first_chunks size (n + count) (drop size (xs ++ ys)) ≡ first_chunks size n (drop size xs) ++ first_chunks size count ys =
    ap (λ (l : List ℕ). first_chunks size (n + count) l) (drop-append-le size xs ys long) ∙ first_chunks-append size n count (drop size xs) ys rest in
    rw suc-add (let k : take size (xs ++ ys) ∷ first_chunks size (n + count) (drop size (xs ++ ys)) ≡ (take size xs ∷ first_chunks size n (drop size xs)) ++ first_chunks size count ys = cc in k)

pub concat-first_chunks : (size count : ℕ) (bytes : List ℕ) → length bytes ≡ count * size → concat (first_chunks size count bytes) ≡ bytes
concat-first_chunks size zero bytes e = sym (nil_from_length bytes (omega arith))
concat-first_chunks size (suc n) bytes e =
    let rest : length (drop size bytes) ≡ n * size = omega (arith, length-drop size bytes) in
    ap (λ (l : List ℕ). take size bytes ++ l) (concat-first_chunks size n (drop size bytes) rest) ∙ take-append-drop size bytes

-- the three parts of a list
parts : (bytes : List ℕ) (m n : ℕ) → bytes ≡ take m bytes ++ (take n (drop m bytes) ++ drop n (drop m bytes))
parts bytes m n = sym (ap (λ (l : List ℕ). take m bytes ++ l) (take-append-drop n (drop m bytes)) ∙ take-append-drop m bytes)

cut_in_three : (size i c m : ℕ) (p q r : List ℕ) → length p ≡ i * size → length q ≡ c * size
    → first_chunks size (i + (c + m)) (p ++ (q ++ r)) ≡ first_chunks size i p ++ (first_chunks size c q ++ first_chunks size m r)
cut_in_three size i c m p q r e f = first_chunks-append size i (c + m) p (q ++ r) e
    ∙ ap (λ (l : List (List ℕ)). first_chunks size i p ++ l) (first_chunks-append size c m q r f)

-- the items of the middle part
middle : {X : Type 0} → (p q r : List X) (i c : ℕ) → length p ≡ i → length q ≡ c → slice_range (p ++ (q ++ r)) i (i + c) ≡ q
middle {X} p q r i c e f = simp (drop_at p (q ++ r) i e) (let k : length q ≡ (i + c) - i = omega arith in take_at q r _ k)

-- others in the place of the middle part
in_the_middle : {X : Type 0} → (p q r s : List X) (i : ℕ) → length p ≡ i → length q ≡ length s → splice (p ++ (q ++ r)) i s ≡ p ++ (s ++ r)
in_the_middle {X} p q r s i e f =
    let before : take i (p ++ (q ++ r)) ≡ p = take_at p (q ++ r) i e in
    let long : length (p ++ q) ≡ i + length s = omega (arith, length-append p q) in
    let after : drop (i + length s) (p ++ (q ++ r)) ≡ r = rw (← append_assoc p q r) (drop_at (p ++ q) r (i + length s) long) in
    ap (λ (l : List X). l ++ (s ++ drop (i + length s) (p ++ (q ++ r)))) before ∙ ap (λ (l : List X). p ++ (s ++ l)) after

-- bytes of which a part is the bytes of an extent
record Parted (size count i c : ℕ) (bytes : List ℕ) (p q : List ℕ) : Type 0 where
  rest : List ℕ
  left : ℕ
  all : bytes ≡ p ++ (q ++ rest)
  counted : count ≡ i + (c + left)
  before : length p ≡ i * size
  inside : length q ≡ c * size

parted : (size count i c a k : ℕ) (bytes : List ℕ) → length bytes ≡ count * size → i + c ≤ count → a ≡ i * size → k ≡ c * size
    → Parted size count i c bytes (take a bytes) (take k (drop a bytes))
parted size count i c a k bytes long within start part =
    let all : (i + c) * size ≤ count * size = mul-le-mul_right size within in
    record {
      rest = drop k (drop a bytes);
      left = count - (i + c);
      all = parts bytes a k;
      counted = omega arith;
      before = length-take-le a bytes (omega arith) ∙ start;
      inside = length-take-le k (drop a bytes) (omega (arith, length-drop a bytes)) ∙ part;
    }

cut_of : (size count i c : ℕ) (bytes p q : List ℕ) → (w : Parted size count i c bytes p q)
    → first_chunks size count bytes ≡ first_chunks size i p ++ (first_chunks size c q ++ first_chunks size w.left w.rest)
cut_of size count i c bytes p q w =
    ap (λ (n : ℕ). first_chunks size n bytes) w.counted
    ∙ (ap (λ (l : List ℕ). first_chunks size (i + (c + w.left)) l) w.all ∙ cut_in_three size i c w.left p q w.rest w.before w.inside)

-- the bytes of an extent are those of its sectors
middle_bytes : (size count i c : ℕ) (bytes p q : List ℕ) → Parted size count i c bytes p q
    → q ≡ concat (slice_range (first_chunks size count bytes) i (i + c))
middle_bytes size count i c bytes p q w =
    sym (ap (λ (l : List (List ℕ)). concat (slice_range l i (i + c))) (cut_of size count i c bytes p q w)
    ∙ (ap concat (middle (first_chunks size i p) (first_chunks size c q) (first_chunks size w.left w.rest) i c
    (length-first_chunks size i p) (length-first_chunks size c q))
    ∙ concat-first_chunks size c q w.inside))

pub bytes_of_sectors : (size count i c a e : ℕ) (bytes : List ℕ) → length bytes ≡ count * size → i + c ≤ count
    → a ≡ i * size → e ≡ (i + c) * size → slice_range bytes a e ≡ concat (slice_range (first_chunks size count bytes) i (i + c))
bytes_of_sectors size count i c a e bytes long within start end =
    let part : e - a ≡ c * size = omega arith in
    middle_bytes size count i c bytes _ _ (parted size count i c a (e - a) bytes long within start part)

-- bytes in the place of an extent's are sectors in the place of its sectors
replaced : (size count i c : ℕ) (bytes p q moved : List ℕ) → (w : Parted size count i c bytes p q) → length moved ≡ c * size
    → first_chunks size count (p ++ (moved ++ w.rest)) ≡ splice (first_chunks size count bytes) i (first_chunks size c moved)
replaced size count i c bytes p q moved w whole =
    (ap (λ (n : ℕ). first_chunks size n (p ++ (moved ++ w.rest))) w.counted
    ∙ cut_in_three size i c w.left p moved w.rest w.before whole)
    ∙ sym (ap (λ (l : List (List ℕ)). splice l i (first_chunks size c moved)) (cut_of size count i c bytes p q w)
    ∙ in_the_middle (first_chunks size i p) (first_chunks size c q) (first_chunks size w.left w.rest) (first_chunks size c moved) i
    (length-first_chunks size i p) (length-first_chunks size c q ∙ sym (length-first_chunks size c moved)))

pub sectors_of_bytes : (size count i c a k : ℕ) (bytes moved : List ℕ) → length bytes ≡ count * size → i + c ≤ count
    → a ≡ i * size → k ≡ c * size → length moved ≡ c * size
    → first_chunks size count (put_mid a k bytes moved) ≡ splice (first_chunks size count bytes) i (first_chunks size c moved)
unfolding parted
sectors_of_bytes size count i c a k bytes moved long within start part whole =
    replaced size count i c bytes _ _ moved (parted size count i c a k bytes long within start part) whole

length-put_mid : (a k : ℕ) (bytes moved : List ℕ) → a + k ≤ length bytes → length moved ≡ k → length (put_mid a k bytes moved) ≡ length bytes
length-put_mid a k bytes moved within whole =
    let one = length-append (take a bytes) (moved ++ drop k (drop a bytes)) in
    let two = length-append moved (drop k (drop a bytes)) in
    let head = length-take-le a bytes (omega arith) in
    let rest = length-drop k (drop a bytes) in
    let tail = length-drop a bytes in
    omega arith

-- the same, as a vector shows it whose part was written
pub sectors_written : (size count i c a e n : ℕ) (items lent bytes moved : List ℕ) → length items ≡ count * size → i + c ≤ count
    → a ≡ i * size → e ≡ (i + c) * size → length bytes ≡ c * size → lent ≡ items → length lent ≡ n → moved ≡ bytes
    → first_chunks size count (take n (put_mid a (e - a) lent moved ++ drop (length (put_mid a (e - a) lent moved)) items))
    ≡ splice (first_chunks size count items) i (first_chunks size c bytes)
sectors_written size count i c a e n items lent bytes moved long within start end whole is counted holds =
    let k : ℕ = e - a in
    let all : (i + c) * size ≤ count * size = mul-le-mul_right size within in
    let lent_long : length lent ≡ count * size = ap length is ∙ long in
    let moved_long : length moved ≡ c * size = ap length holds ∙ whole in
    let part : k ≡ c * size = omega arith in
    let full : length (put_mid a k lent moved) ≡ n = length-put_mid a k lent moved (omega arith) (omega arith) ∙ counted in
    ap (λ (l : List ℕ). first_chunks size count l) (take_at (put_mid a k lent moved) _ n full)
    ∙ (sectors_of_bytes size count i c a k lent moved lent_long within start part moved_long
    ∙ (ap (λ (l : List ℕ). splice (first_chunks size count l) i (first_chunks size c moved)) is
    ∙ ap (λ (l : List ℕ). splice (first_chunks size count items) i (first_chunks size c l)) holds))

-- zeros cut into sectors
abbrev zeros : ℕ → List ℕ
zeros n = replicate n 0

pub first_chunks-zeros : (size count : ℕ) → first_chunks size count (zeros (count * size)) ≡ replicate count (zeros size)
first_chunks-zeros size zero = refl
first_chunks-zeros size (suc n) =
    let left : suc n * size - size ≡ n * size = omega arith in
    let head : take size (zeros (suc n * size)) ≡ zeros size = take-replicate size (suc n * size) 0 (omega arith) in
    let tail : first_chunks size n (drop size (zeros (suc n * size))) ≡ replicate n (zeros size) =
    ap (λ (l : List ℕ). first_chunks size n l) (drop-replicate size (suc n * size) 0 ∙ ap (λ (k : ℕ). zeros k) left) ∙ first_chunks-zeros size n in
    cc

-- some bytes, and zeros after them
pub starts_filled : (size count n : ℕ) (bytes extended none first : List ℕ) → length bytes ≡ count * size → length none ≡ 0 → length first ≤ count * size
    → extended ≡ none ++ first → n ≡ length first → bytes ≡ take (count * size) extended ++ zeros (count * size - n)
    → concat (first_chunks size count bytes) ≡ first ++ zeros (count * size - length first)
starts_filled size count n bytes extended none first long empty fits are counted filled =
    let all : ℕ = count * size in
    let is_first : extended ≡ first = are ∙ ap (λ (l : List ℕ). l ++ first) (nil_from_length none empty) in
    let whole : take all extended ≡ first = ap (λ (l : List ℕ). take all l) is_first ∙ take_all all first fits in
    concat-first_chunks size count bytes long
    ∙ (filled ∙ (ap (λ (l : List ℕ). l ++ zeros (all - n)) whole ∙ ap (λ (k : ℕ). first ++ zeros (all - k)) counted))

-- a disk that starts with no bytes holds zeros
pub blank_from_concat : (size count : ℕ) (bytes : List ℕ) → length bytes ≡ count * size → concat (first_chunks size count bytes) ≡ zeros (count * size)
    → first_chunks size count bytes ≡ replicate count (zeros size)
blank_from_concat size count bytes long whole =
    ap (λ (l : List ℕ). first_chunks size count l) (sym (concat-first_chunks size count bytes long) ∙ whole) ∙ first_chunks-zeros size count
