-- The sectors of a partition, of which those alone are kept that were written.
use Rattle.std.proofs.Common.{◌≡◌, ◌≢◌, ◌<◌, ◌≤◌, ℕ, zero, suc, ◌+◌, ◌-◌, min, max, Bool, true, false, cond, ◌&&◌, nat_eq, List, [], ◌∷◌, ◌++◌, map, length, get_or, take, drop, replicate, slice_get, slice_range, Option, Some, None, option_map, unwrap_or, vec_len, refl, sym, ◌∙◌, ap, arith, append_assoc, append-nil, length-append, length-take, length-drop, take-append-drop, drop_of_length-le, nat_cmp, is_eq, Ordering, Less, Equal, Greater, eqb-true, zero-add, add-zero, suc-add}
use lib.Pointwise.{pointwise}
use Rattle.std.specs.Global.{Vec}
use Rattle.std.specs.Bool.{OnTrue}
use Rattle.std.specs.List.{AllZip, concat, range_with_len}
use Rattle.std.specs.Map.{lookup}
use Rattle.std.specs.BTreeMap.{IsEmpty, get, is_at}
use Rattle.std.proofs.lemmas.Map.Lookups.{exact_unsigned}
use Rattle.std.proofs.lemmas.List.{get_or_default, get_or-take, get_or-drop, drop-drop}
use Rattle.std.proofs.lemmas.List.FromFn.{length-map-range_with_len, get_or-map-range_with_len, take-map-range_with_len}
use Rattle.sector.specs.Splice.{splice}
use Rattle.judge.proofs.Differing.{sector_in_front}
use Rattle.judge.specs.Sparse.{AreHeld, Written, held, sector_of, sectors_of}

-- LISTS THAT ARE MADE FROM A FUNCTION OF THE NUMBER

same_range : {X : Type 0} (f g : ℕ → X) (a n : ℕ) → ((k : ℕ) → a ≤ k → k < a + n → f k ≡ g k) → map f (range_with_len a n) ≡ map g (range_with_len a n)
same_range f g a zero same = refl
same_range f g a (suc n) same =
    let head : f a ≡ g a = same a (omega arith) (omega arith) in
    let tail = same_range f g (a + 1) n (λ k low high. same k (omega arith) (omega arith)) in
    cc

all_alike : {X : Type 0} (f : ℕ → X) (x : X) (a n : ℕ) → ((k : ℕ) → f k ≡ x) → map f (range_with_len a n) ≡ replicate n x
all_alike f x a zero same = refl
all_alike f x a (suc n) same =
    let head : f a ≡ x = same a in
    let tail = all_alike f x (a + 1) n same in
    cc

append_range : {X : Type 0} (f : ℕ → X) (first a b : ℕ) → map f (range_with_len first (a + b)) ≡ map f (range_with_len first a) ++ map f (range_with_len (first + a) b)
append_range f first zero b = rw (zero-add, add-zero) refl
append_range f first (suc a) b =
    let rest = append_range f (first + 1) a b in
    let next : first + 1 + a ≡ first + suc a = omega arith in
    rw suc-add (ap (λ xs. f first ∷ xs) (rest ∙ ap (λ (k : ℕ). map f (range_with_len (first + 1) a) ++ map f (range_with_len k b)) next))

drop_range : {X : Type 0} (f : ℕ → X) (k a n : ℕ) → drop k (map f (range_with_len a n)) ≡ map f (range_with_len (a + k) (n - k))
drop_range f zero a n =
    let from : a ≡ a + 0 = omega arith in
    let left : n ≡ n - 0 = omega arith in
    ap (λ (b : ℕ). map f (range_with_len b n)) from ∙ ap (λ (b : ℕ). map f (range_with_len (a + 0) b)) left
drop_range f (suc k) a zero =
    let left : 0 ≡ 0 - suc k = omega arith in
    ap (λ (b : ℕ). map f (range_with_len (a + suc k) b)) left
drop_range f (suc k) a (suc n) =
    let from : a + 1 + k ≡ a + suc k = omega arith in
    let left : n - k ≡ suc n - suc k = omega arith in
    drop_range f k (a + 1) n ∙ (ap (λ (b : ℕ). map f (range_with_len b (n - k))) from ∙ ap (λ (b : ℕ). map f (range_with_len (a + suc k) b)) left)

-- one of them is another, or one more stands behind all
put_range : {X : Type 0} (f g : ℕ → X) (n m at : ℕ) (x : X) → at ≤ n → m ≡ max n (at + 1) → g at ≡ x → ((k : ℕ) → k ≢ at → g k ≡ f k)
    → map g (range_with_len 0 m) ≡ splice (map f (range_with_len 0 n)) at (x ∷ [])
put_range f g n m at x low most here others =
    let left : ℕ = n - (at + 1) in
    let sum : m ≡ at + suc left = omega arith in
    let from : 0 + at ≡ at = omega arith in
    let next : 0 + (at + 1) ≡ at + 1 = omega arith in
    let before : map g (range_with_len 0 at) ≡ take at (map f (range_with_len 0 n)) =
    same_range g f 0 at (λ k from below. others k (λ e. let same : k ≡ at = e in absurd (omega arith))) ∙ sym (take-map-range_with_len f 0 n at low) in
    let behind : map g (range_with_len (at + 1) left) ≡ drop (at + 1) (map f (range_with_len 0 n)) =
    same_range g f (at + 1) left (λ k from below. others k (λ e. let same : k ≡ at = e in absurd (omega arith)))
    ∙ (ap (λ (b : ℕ). map f (range_with_len b left)) (sym next) ∙ sym (drop_range f (at + 1) 0 n)) in
    ap (λ (k : ℕ). map g (range_with_len 0 k)) sum
    ∙ (append_range g 0 at (suc left)
    ∙ (ap (λ (b : ℕ). map g (range_with_len 0 at) ++ map g (range_with_len b (suc left))) from
    ∙ (ap (λ xs. xs ++ map g (range_with_len at (suc left))) before
    ∙ (ap (λ y. take at (map f (range_with_len 0 n)) ++ (y ∷ map g (range_with_len (at + 1) left))) here
    ∙ ap (λ xs. take at (map f (range_with_len 0 n)) ++ (x ∷ xs)) behind))))

-- WHAT IS HELD

abbrev found_in : List (ℕ × Vec ℕ) → ℕ → Option (List ℕ)
found_in entries k = option_map (λ bytes. bytes.items) (lookup (is_at (nat_cmp k)) entries)

held_none : (written : Written) → IsEmpty written → (k : ℕ) → held written k ≡ None
held_none written none k = ap (λ entries. option_map (λ bytes. bytes.items) (lookup (is_at (nat_cmp k)) entries)) none

is_equal : (o : Ordering) → is_eq o ≡ true → o ≡ Equal
is_equal Less e = cc (e)
is_equal Equal e = refl
is_equal Greater e = cc (e)

other_key : (at k : ℕ) → k ≢ at → is_at (nat_cmp at) k ≡ false
other_key at k apart = by (is_eq (nat_cmp at k)) refl
  where
    by : (b : Bool) → is_eq (nat_cmp at k) ≡ b → is_eq (nat_cmp at k) ≡ false
    by true e = absurd (apart (sym (exact_unsigned at k (is_equal (nat_cmp at k) e))))
    by false e = e

-- SECTORS

pub length_of : (blank : List ℕ) (count : ℕ) (written : Written) → length (sectors_of blank count written) ≡ count
length_of blank count written = length-map-range_with_len (sector_of blank written) 0 count

pub filled_with : (blank : List ℕ) (count : ℕ) (written : Written) → IsEmpty written → sectors_of blank count written ≡ replicate count blank
filled_with blank count written none = all_alike (sector_of blank written) blank 0 count (λ k. ap (λ found. unwrap_or found blank) (held_none written none k))

pub same_sectors : (blank blank' : List ℕ) (count count' : ℕ) (written written' : Written) → blank ≡ blank' → count ≡ count' → AreHeld written written'
    → sectors_of blank count written ≡ sectors_of blank' count' written'
same_sectors blank blank' count count' written written' same number all =
    same_range (sector_of blank written) (sector_of blank' written') 0 count (λ k low high. ap (λ found. unwrap_or found blank) (all k) ∙ ap (λ xs. unwrap_or (held written' k) xs) same)
    ∙ ap (λ (n : ℕ). sectors_of blank' n written') number

pub same_copy : (blank blank' : List ℕ) (count : ℕ) (written written' : Written) (now : List (List ℕ)) → sectors_of blank count written ≡ now → blank' ≡ blank → AreHeld written written'
    → sectors_of blank' count written' ≡ now
same_copy blank blank' count written written' now is same all = sym (same_sectors blank blank' count count written written' (sym same) refl all) ∙ is

pub seen_same : (told : Bool) (blank blank' : List ℕ) (count count' : ℕ) (written written' : Written) (now now' : List (List ℕ)) → sectors_of blank count written ≡ now → sectors_of blank' count' written' ≡ now'
    → blank ≡ blank' → count ≡ count' → OnTrue told (AreHeld written written') → OnTrue told (now ≡ now')
seen_same true blank blank' count count' written written' now now' is is' same number all =
    sym is ∙ same_sectors blank blank' count count' written written' same number all ∙ is'
seen_same false blank blank' count count' written written' now now' is is' same number all = tt

-- sectors that are seen as these
module _ (blank : List ℕ) (count : ℕ) (written : Written) (now : List (List ℕ)) (is : sectors_of blank count written ≡ now) where
  pub length_is : count ≡ length now
  length_is = sym (length_of blank count written) ∙ ap length is

  module _ (at : ℕ) (low : at < length now) (bytes : List ℕ) where
    there : get_or now at [] ≡ sector_of blank written at
    there = ap (λ xs. get_or xs at []) (sym is) ∙ get_or-map-range_with_len (sector_of blank written) 0 count at at [] (let n = length_is in omega arith) (omega arith)

    pub at_written : (v : Vec ℕ) → Some v ≡ get nat_cmp written at → bytes ≡ v.items → bytes ≡ get_or now at []
    at_written v found same = same ∙ ap (λ x. unwrap_or (option_map (λ (w : Vec ℕ). w.items) x) blank) found ∙ sym there

    pub at_blank : None ≡ get nat_cmp written at → bytes ≡ blank → bytes ≡ get_or now at []
    at_blank found same = same ∙ ap (λ x. unwrap_or (option_map (λ (w : Vec ℕ). w.items) x) blank) found ∙ sym there

  pub put_in : (m at : ℕ) (new : Written) (v : Vec ℕ) (x : List ℕ) → at ≤ length now → m ≡ max count (at + 1)
      → get nat_cmp new at ≡ Some v → ((k : ℕ) → is_at (nat_cmp at) k ≡ false → get nat_cmp new k ≡ get nat_cmp written k) → v.items ≡ x
      → sectors_of blank m new ≡ splice now at (x ∷ [])
  put_in m at new v x low most here others same =
      put_range (sector_of blank written) (sector_of blank new) count m at x (let n = length_is in omega arith) most
      (ap (λ found. unwrap_or (option_map (λ (w : Vec ℕ). w.items) found) blank) here ∙ same)
      (λ k apart. ap (λ found. unwrap_or (option_map (λ (w : Vec ℕ). w.items) found) blank) (others k (other_key at k apart)))
      ∙ ap (λ xs. splice xs at (x ∷ [])) is

-- COPIES, AND WHAT IS THE SAME

one_of : (b : Bool) (v w : Vec ℕ) (vs ws : Option (Vec ℕ)) → v.items ≡ w.items → option_map (λ (x : Vec ℕ). x.items) vs ≡ option_map (λ (x : Vec ℕ). x.items) ws
    → option_map (λ (x : Vec ℕ). x.items) (cond b (Some v) vs) ≡ option_map (λ (x : Vec ℕ). x.items) (cond b (Some w) ws)
one_of true v w vs ws same rest = ap Some same
one_of false v w vs ws same rest = rest

same_bytes : (xs ys : List ℕ) → AllZip (λ x y. y ≡ x) xs ys → ys ≡ xs
same_bytes [] [] h = refl
same_bytes [] (y ∷ ys) h = absurd h
same_bytes (x ∷ xs) [] h = absurd h
same_bytes (x ∷ xs) (y ∷ ys) h = let e : y ≡ x = h.0 in let rest : ys ≡ xs = same_bytes xs ys h.1 in cc

pub cloned : (ms ns : List (ℕ × Vec ℕ)) → AllZip (λ p q. (q.0 ≡ p.0) × (AllZip (λ x y. y ≡ x) p.1.items q.1.items × (vec_len q.1 ≡ vec_len p.1))) ms ns → (k : ℕ) → found_in ms k ≡ found_in ns k
cloned [] [] h k = refl
cloned [] (n ∷ ns) h k = absurd h
cloned (m ∷ ms) [] h k = absurd h
cloned (m ∷ ms) (n ∷ ns) h k =
    let key : m.0 ≡ n.0 = sym h.0.0 in
    ap (λ (q : ℕ). option_map (λ (x : Vec ℕ). x.items) (cond (is_at (nat_cmp k) q) (Some m.1) (lookup (is_at (nat_cmp k)) ms))) key
    ∙ one_of (is_at (nat_cmp k) n.0) m.1 n.1 (lookup (is_at (nat_cmp k)) ms) (lookup (is_at (nat_cmp k)) ns) (sym (same_bytes m.1.items n.1.items h.0.1.0)) (cloned ms ns h.1 k)

both : (a b : Bool) → (a && b) ≡ true → (a ≡ true) × (b ≡ true)
both true b e = (refl, e)
both false b e = cc (e)

equal_bytes : (xs ys : List ℕ) → pointwise nat_eq xs ys ≡ true → xs ≡ ys
equal_bytes [] [] e = refl
equal_bytes [] (y ∷ ys) e = cc (e)
equal_bytes (x ∷ xs) [] e = cc (e)
equal_bytes (x ∷ xs) (y ∷ ys) e =
    let parts = both (nat_eq x y) (pointwise nat_eq xs ys) e in
    let head : x ≡ y = eqb-true x y parts.0 in
    let rest : xs ≡ ys = equal_bytes xs ys parts.1 in
    cc

pub equal : (ms ns : List (ℕ × Vec ℕ)) → pointwise (λ p q. nat_eq p.0 q.0 && pointwise nat_eq p.1.items q.1.items) ms ns ≡ true → (k : ℕ) → found_in ms k ≡ found_in ns k
equal [] [] e k = refl
equal [] (n ∷ ns) e k = cc (e)
equal (m ∷ ms) [] e k = cc (e)
equal (m ∷ ms) (n ∷ ns) e k =
    let parts = both (nat_eq m.0 n.0 && pointwise nat_eq m.1.items n.1.items) _ e in
    let pair = both (nat_eq m.0 n.0) (pointwise nat_eq m.1.items n.1.items) parts.0 in
    let key : m.0 ≡ n.0 = eqb-true m.0 n.0 pair.0 in
    ap (λ (q : ℕ). option_map (λ (x : Vec ℕ). x.items) (cond (is_at (nat_cmp k) q) (Some m.1) (lookup (is_at (nat_cmp k)) ms))) key
    ∙ one_of (is_at (nat_cmp k) n.0) m.1 n.1 (lookup (is_at (nat_cmp k)) ms) (lookup (is_at (nat_cmp k)) ns) (equal_bytes m.1.items n.1.items pair.1) (equal ms ns parts.1 k)

pub told_equal : (told : Bool) (a b : Written) → told ≡ pointwise (λ p q. nat_eq p.0 q.0 && pointwise nat_eq p.1.items q.1.items) a.entries b.entries → OnTrue told (AreHeld a b)
told_equal true a b e = λ k. equal a.entries b.entries (sym e) k
told_equal false a b e = tt

-- SECTORS WRITTEN ONE BY ONE

module _ (xs : List (List ℕ)) (first : ℕ) where
  pub none_written : splice xs first [] ≡ xs
  none_written = let n : first + 0 ≡ first = omega arith in ap (λ (k : ℕ). take first xs ++ drop k xs) n ∙ take-append-drop first xs

  front : (more : List (List ℕ)) → splice xs first more ≡ (take first xs ++ more) ++ drop (first + length more) xs
  front more = sym (append_assoc (take first xs) more (drop (first + length more) xs))

  length_front : (more : List (List ℕ)) (at : ℕ) → at ≡ min first (length xs) + length more → length (take first xs ++ more) ≡ at
  length_front more at is = let a = length-append (take first xs) more in let b = length-take first xs in omega arith

  pub has_room : (more now : List (List ℕ)) (at : ℕ) → at ≡ min first (length xs) + length more → now ≡ splice xs first more → at ≤ length now
  has_room more now at is same =
      let all : length now ≡ length ((take first xs ++ more) ++ drop (first + length more) xs) = ap length (same ∙ front more) in
      let sum = length-append (take first xs ++ more) (drop (first + length more) xs) in
      let here = length_front more at is in
      omega arith

  more_written : (more : List (List ℕ)) (x : List ℕ) (at : ℕ) → at ≡ min first (length xs) + length more → splice (splice xs first more) at (x ∷ []) ≡ splice xs first (more ++ x ∷ [])
  more_written more x at is =
      let here : length (take first xs ++ more) ≡ at = length_front more at is in
      let rest : List (List ℕ) = drop (first + length more) xs in
      let count : length (more ++ x ∷ []) ≡ length more + 1 = length-append more (x ∷ []) in
      let n : first + length more + 1 ≡ first + length (more ++ x ∷ []) = omega arith in
      let before : take at ((take first xs ++ more) ++ rest) ≡ take first xs ++ more = take_front (take first xs ++ more) rest at here in
      let behind : drop (at + 1) ((take first xs ++ more) ++ rest) ≡ drop (first + length (more ++ x ∷ [])) xs =
      drop_front (take first xs ++ more) rest at 1 here ∙ drop_again (first + length more) 1 xs ∙ ap (λ (k : ℕ). drop k xs) n in
      ap (λ ys. splice ys at (x ∷ [])) (front more)
      ∙ ap (λ ys. ys ++ (x ∷ drop (at + 1) ((take first xs ++ more) ++ rest))) before
      ∙ ap (λ ys. (take first xs ++ more) ++ (x ∷ ys)) behind
      ∙ append_assoc (take first xs) more (x ∷ drop (first + length (more ++ x ∷ [])) xs)
      ∙ ap (λ ys. take first xs ++ ys) (sym (append_assoc more (x ∷ []) (drop (first + length (more ++ x ∷ [])) xs)))
    where
      take_front : (fs ys : List (List ℕ)) (n : ℕ) → length fs ≡ n → take n (fs ++ ys) ≡ fs
      take_front [] ys n e = let z : n ≡ 0 = omega (arith, e) in ap (λ (k : ℕ). take k ys) z
      take_front (a ∷ fs) ys n e = ap (λ (k : ℕ). take k (a ∷ (fs ++ ys))) (sym e) ∙ ap (λ zs. a ∷ zs) (take_front fs ys (length fs) refl)

      drop_front : (fs ys : List (List ℕ)) (n k : ℕ) → length fs ≡ n → drop (n + k) (fs ++ ys) ≡ drop k ys
      drop_front [] ys n k e = let z : n + k ≡ k = omega (arith, e) in ap (λ (j : ℕ). drop j ys) z
      drop_front (a ∷ fs) ys n k e =
          let z : n + k ≡ suc (length fs + k) = omega (arith, e) in
          ap (λ (j : ℕ). drop j (a ∷ (fs ++ ys))) z ∙ drop_front fs ys (length fs) k refl

      drop_again : (n k : ℕ) (ys : List (List ℕ)) → drop k (drop n ys) ≡ drop (n + k) ys
      drop_again n k ys = drop-drop k n ys

  -- one more after those so far
  pub one_more : (more now after : List (List ℕ)) (x : List ℕ) (at : ℕ) → at ≡ min first (length xs) + length more → now ≡ splice xs first more
      → after ≡ splice now at (x ∷ []) → after ≡ splice xs first (more ++ x ∷ [])
  one_more more now after x at place so_far put = put ∙ ap (λ ys. splice ys at (x ∷ [])) so_far ∙ more_written more x at place

  pub one_further : (more : List (List ℕ)) (x : List ℕ) (at next : ℕ) → at ≡ min first (length xs) + length more → next ≡ at + 1 → next ≡ min first (length xs) + length (more ++ x ∷ [])
  one_further more x at next place is = let n = length-append more (x ∷ []) in omega arith

-- sectors that are put where none are
pub from_none : (items : List (List ℕ)) → splice [] 0 items ≡ items
from_none items = ap (λ ys. items ++ ys) (drop_of_length-le [] (omega arith)) ∙ append-nil items

-- PARTS

pub got_or : {X : Type 0} (xs : List X) (i : ℕ) (d : X) → unwrap_or (slice_get xs i) d ≡ get_or xs i d
got_or [] i d = refl
got_or (x ∷ xs) zero d = refl
got_or (x ∷ xs) (suc i) d = got_or xs i d

pub length_part : (xs : List (List ℕ)) (from to : ℕ) → length (slice_range xs from to) ≡ min (to - from) (length xs - from)
length_part xs from to = length-take (to - from) (drop from xs) ∙ ap (λ (n : ℕ). min (to - from) n) (length-drop from xs)

module _ (xs now : List (List ℕ)) (from to : ℕ) (is : slice_range xs from to ≡ now) where
  pub part_length : (count end n : ℕ) → count ≡ length xs → end ≡ min to count → n ≡ end - from → n ≡ length now
  part_length count end n counted ends left = let l = length_part xs from to in let e = ap length is in omega arith

  pub in_part : (i : ℕ) (bytes : List ℕ) → i < length now → bytes ≡ get_or xs (from + i) [] → bytes ≡ get_or now i []
  in_part i bytes low at =
      let l = length_part xs from to in
      let e = ap length is in
      at ∙ sym (get_or-drop from xs i []) ∙ sym (get_or-take (to - from) (drop from xs) i [] (omega arith)) ∙ ap (λ ys. get_or ys i []) is

  pub none_in_part : (count i : ℕ) → count ≡ length xs → count ≤ from → i < length now → ⊥
  none_in_part count i counted past low = let l = length_part xs from to in let e = ap length is in omega arith

-- THE SECTOR AT HAND

pub front_at : (sectors : List (List ℕ)) (i : ℕ) (part : List ℕ) → i < length sectors → part ≡ get_or sectors i [] → concat (drop i sectors) ≡ part ++ concat (drop (i + 1) sectors)
front_at sectors i part low is = sector_in_front sectors i part part low (is ∙ sym (get_or_default sectors i part [] low)) refl
