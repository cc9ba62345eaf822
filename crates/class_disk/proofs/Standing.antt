-- Where an open request stands among all, and where a part of it; what changes with that part alone.
use Rattle.std.proofs.Common.{◌≡◌, ◌≢◌, ◌<◌, ◌≤◌, inl, inr, ℕ, zero, suc, ◌+◌, ◌==◌, Bool, true, false, List, [], ◌∷◌, ◌++◌, Option, Some, None, refl, sym, ◌∙◌, ap, subst, arith, length, map, eqb, get_or}
use Rattle.std.specs.Prelude.{slice_get, slice_set, All, Contains}
use Rattle.class_disk.proofs.Common.{cases_Bool, ne_eqb, eqb-false, eqb-true, IsPermutation-sym, IsPermutation-middle, All-permutation, All-nil, All-cons, All-head, All-tail, IsDistinct, AllByRecursion, IsDistinct-cons, packet_spot, IsOffRooms, room_at, Slot, packet_above, Opened, TableView, open_from, open_at, put_at, rooms_from, room_of, opened_of}
use Rattle.class_disk.specs.declared.requests.Slot.TheVariants.{Reserved, Open}
use Rattle.class_disk.proofs.Slots.{room_in}
use Rattle.class_disk.proofs.Owned.{apart_none}

pub split_there : {X : Type 0} (x : X) (ys : List X) → Contains ys x → (front : List X) × (back : List X) × (ys ≡ front ++ (x ∷ back))
split_there x [] (k, low, is) = absurd (omega arith)
split_there x (y ∷ ys) (zero, low, is) = ([], ys, ap (λ z. z ∷ ys) is)
split_there x (y ∷ ys) (suc k, low, is) = let r = split_there x ys (k, omega arith, is) in (y ∷ r.0, r.1, ap (λ zs. y ∷ zs) r.2)

pub at_end_of : {X : Type 0} (front : List X) (x : X) (back : List X) → slice_get (front ++ (x ∷ back)) (length front) ≡ Some x
at_end_of [] x back = refl
at_end_of (y ∷ front) x back = at_end_of front x back

pub set_there : {X : Type 0} (front : List X) (x y : X) (back : List X) → slice_set (front ++ (x ∷ back)) (length front) y ≡ front ++ (y ∷ back)
set_there [] x y back = refl
set_there (z ∷ front) x y back = ap (λ zs. z ∷ zs) (set_there front x y back)

pub split_at : {X : Type 0} (xs : List X) (k : ℕ) (x : X) → slice_get xs k ≡ Some x → (front : List X) × (back : List X) × (xs ≡ front ++ (x ∷ back)) × (length front ≡ k)
split_at [] k x h = absurd (cc (h))
split_at (y ∷ xs) zero x h = ([], xs, cc (h), refl)
split_at (y ∷ xs) (suc k) x h = let r = split_at xs k x h in (y ∷ r.0, r.1, ap (λ zs. y ∷ zs) r.2, ap suc r.3)

-- one of a list changes
pub All-middle : {X : Type 0} (P : X → Type 0) (xs : List X) (x x' : X) (ys : List X) → (P x → P x') → All P (xs ++ (x ∷ ys)) → All P (xs ++ (x' ∷ ys))
All-middle P xs x x' ys then all =
    let g : All P (x ∷ (xs ++ ys)) = All-permutation P _ _ (IsPermutation-middle xs x ys) all in
    All-permutation P _ _ (IsPermutation-sym _ _ (IsPermutation-middle xs x' ys)) (All-cons P x' (xs ++ ys) (then (All-head P x (xs ++ ys) g)) (All-tail P x (xs ++ ys) g))

pub All-at : {X : Type 0} (P : X → Type 0) (xs : List X) (x : X) (ys : List X) → All P (xs ++ (x ∷ ys)) → P x
All-at P xs x ys all = All-head P x (xs ++ ys) (All-permutation P _ _ (IsPermutation-middle xs x ys) all)

pub All-others : {X : Type 0} (P : X → Type 0) (xs : List X) (x : X) (ys : List X) → All P (xs ++ (x ∷ ys)) → All P (xs ++ ys)
All-others P xs x ys all = All-tail P x (xs ++ ys) (All-permutation P _ _ (IsPermutation-middle xs x ys) all)

same_slot : (n : ℕ) → (n == n) ≡ true
same_slot n = elim (cases_Bool (n == n)) [
  | inl yes' ↦ yes'
  | inr no' ↦ absurd (eqb-false n n no' refl)
]

-- BY RISING SLOTS
abbrev pub AreRising : ℕ → List (ℕ × Opened) → Type 0
AreRising first [] = Unit {0}
AreRising first (e ∷ rest) = (first ≤ e.0) × AreRising (e.0 + 1) rest

rising_from : (low high : ℕ) (xs : List (ℕ × Opened)) → low ≤ high → AreRising high xs → AreRising low xs
rising_from low high [] h r = tt
rising_from low high (e ∷ xs) h r = (let a = r.0 in omega arith, r.1)

pub rising : (first : ℕ) (slots : List (Option Slot)) → AreRising first (open_from first slots)
rising first [] = tt
rising first (None ∷ rest) = rising_from first (first + 1) _ (omega arith) (rising (first + 1) rest)
rising first (Some (Reserved places) ∷ rest) = rising_from first (first + 1) _ (omega arith) (rising (first + 1) rest)
rising first (Some (Open t) ∷ rest) = (omega arith, rising (first + 1) rest)

-- THE SLOTS AS SPOTS

-- no two packets are at one spot, and none at one that is reserved
pub record IsApart (b : TableView) : Type 0 where
  pub spots : IsDistinct eqb (map packet_spot (map packet_above b.opens))
  pub vacant : All (IsOffRooms b.rooms) (map packet_above b.opens)

spots_above : (slot first : ℕ) (es : List (ℕ × Opened)) → slot < first → AreRising first es
    → AllByRecursion (λ y. eqb slot y ≡ false) (map packet_spot (map packet_above es))
spots_above slot first [] low r = tt
spots_above slot first (e ∷ es) low r =
    let a = r.0 in (differ slot e.0 (omega arith), spots_above slot (e.0 + 1) es (omega arith) r.1)
  where
    differ : (m n : ℕ) → m < n → eqb m n ≡ false
    differ m n h = ne_eqb m n (λ same. omega (arith, same))

pub spots_distinct : (first : ℕ) (es : List (ℕ × Opened)) → AreRising first es → IsDistinct eqb (map packet_spot (map packet_above es))
spots_distinct first [] r = apart_none
spots_distinct first (e ∷ es) r =
    IsDistinct-cons eqb e.0 (map packet_spot (map packet_above es)) (spots_above e.0 (e.0 + 1) es (omega arith) r.1) (spots_distinct (e.0 + 1) es r.1)

vacant_from : (all : List (Option Slot)) (first : ℕ) (slots : List (Option Slot)) → ((i : ℕ) → get_or slots i None ≡ get_or all (first + i) None)
    → All (IsOffRooms (rooms_from all)) (map packet_above (open_from first slots))
vacant_from all first [] same = All-nil (IsOffRooms (rooms_from all))
vacant_from all first (x ∷ rest) same = by x (same 0) (vacant_from all (first + 1) rest (λ i. same (suc i) ∙ ap (λ n. get_or all n None) (omega arith)))
  where
    by : (y : Option Slot) → y ≡ get_or all (first + 0) None → All (IsOffRooms (rooms_from all)) (map packet_above (open_from (first + 1) rest))
        → All (IsOffRooms (rooms_from all)) (map packet_above (open_from first (y ∷ rest)))
    by None is later = later
    by (Some (Reserved places)) is later = later
    by (Some (Open t)) is later =
        All-cons (IsOffRooms (rooms_from all)) (packet_above (first, opened_of t)) (map packet_above (open_from (first + 1) rest))
        (ap (room_at (rooms_from all)) (let e : first ≡ first + 0 = omega arith in e) ∙ room_in all (first + 0) ∙ ap room_of (sym is)) later

pub apart_in : (b : TableView) (slots : List (Option Slot)) → b.opens ≡ open_from 0 slots → b.rooms ≡ rooms_from slots → IsApart b
apart_in b slots opens rooms = record {
  spots = subst (λ es. IsDistinct eqb (map packet_spot (map packet_above es))) (sym opens) (spots_distinct 0 (open_from 0 slots) (rising 0 slots));
  vacant = subst (λ rs. All (IsOffRooms rs) (map packet_above b.opens)) (sym rooms)
      (subst (λ es. All (IsOffRooms (rooms_from slots)) (map packet_above es)) (sym opens) (vacant_from slots 0 slots (λ i. ap (λ n. get_or slots n None) (omega arith))));
}

-- the request stands in another slot
abbrev pub HasOtherSlot : ℕ → ℕ × Opened → Type 0
HasOtherSlot slot e = e.0 ≢ slot

above_slot : (slot first : ℕ) (xs : List (ℕ × Opened)) → slot < first → AreRising first xs → All (HasOtherSlot slot) xs
above_slot slot first [] low r = All-nil (HasOtherSlot slot)
above_slot slot first (e ∷ xs) low r =
    let a = r.0 in
    All-cons (HasOtherSlot slot) e xs (λ same. omega (arith, same)) (above_slot slot (e.0 + 1) xs (omega arith) r.1)

-- where the request of a slot stands, and no other in that slot
pub record StandsIn (opens : List (ℕ × Opened)) (slot : ℕ) (o : Opened) : Type 0 where
  pub before : List (ℕ × Opened)
  pub after : List (ℕ × Opened)
  pub opens_are : opens ≡ before ++ ((slot, o) ∷ after)
  pub apart : All (HasOtherSlot slot) (before ++ after)

pub stands_there : (first slot : ℕ) (o : Opened) (opens : List (ℕ × Opened)) → AreRising first opens → Contains opens (slot, o) → StandsIn opens slot o
stands_there first slot o [] r (k, low, is) = absurd (omega arith)
stands_there first slot o (e ∷ opens) r (zero, low, is) =
    let here : e.0 ≡ slot = ap (λ (x : ℕ × Opened). x.0) is in
    record {
      before = [];
      after = opens;
      opens_are = ap (λ x. x ∷ opens) is;
      apart = above_slot slot (e.0 + 1) opens (omega arith) r.1;
    }
stands_there first slot o (e ∷ opens) r (suc k, low, is) =
    let c : Contains opens (slot, o) = (k, omega arith, is) in
    let s = stands_there (e.0 + 1) slot o opens r.1 c in
    record {
      before = e ∷ s.before;
      after = s.after;
      opens_are = ap (λ xs. e ∷ xs) s.opens_are;
      apart = All-cons (HasOtherSlot slot) e (s.before ++ s.after) (λ same. absurd (under e.0 slot o opens (e.0 + 1) r.1 c (omega (arith, same)))) s.apart;
    }
  where
    under : (n slot : ℕ) (o : Opened) (xs : List (ℕ × Opened)) (first : ℕ) → AreRising first xs → Contains xs (slot, o) → slot < first → ⊥
    under n slot o [] first r (k, low, is) h = omega arith
    under n slot o (x ∷ xs) first r (zero, low, is) h = let a = r.0 in let b : x.0 ≡ slot = ap (λ (z : ℕ × Opened). z.0) is in omega arith
    under n slot o (x ∷ xs) first r (suc k, low, is) h = let a = r.0 in under n slot o xs (x.0 + 1) r.1 (k, omega arith, is) (omega arith)

-- what open_at finds there
pub found_in : (slot : ℕ) (o : Opened) (before after : List (ℕ × Opened)) → All (HasOtherSlot slot) before → open_at slot (before ++ ((slot, o) ∷ after)) ≡ Some o
found_in slot o [] after apart = let e : (slot == slot) ≡ true = same_slot slot in rw e refl
found_in slot o (x ∷ before) after apart =
    let e : (x.0 == slot) ≡ false = ne_eqb x.0 slot (All-head (HasOtherSlot slot) x before apart) in
    rw e (found_in slot o before after (All-tail (HasOtherSlot slot) x before apart))

pub put_in : (slot : ℕ) (o o' : Opened) (before after : List (ℕ × Opened)) → All (HasOtherSlot slot) before → put_at slot o' (before ++ ((slot, o) ∷ after)) ≡ before ++ ((slot, o') ∷ after)
put_in slot o o' [] after apart = let e : (slot == slot) ≡ true = same_slot slot in rw e refl
put_in slot o o' (x ∷ before) after apart =
    let e : (x.0 == slot) ≡ false = ne_eqb x.0 slot (All-head (HasOtherSlot slot) x before apart) in
    rw e (ap (λ xs. x ∷ xs) (put_in slot o o' before after (All-tail (HasOtherSlot slot) x before apart)))

abbrev entry : ℕ → Opened → ℕ × Opened
entry slot o = (slot, o)

pub found_there : (slot : ℕ) (opens : List (ℕ × Opened)) (o : Opened) → open_at slot opens ≡ Some o → Contains opens (slot, o)
found_there slot [] o h = absurd (cc (h))
found_there slot (x ∷ opens) o h = by (x.0 == slot) refl (λ more. found_there slot opens o more)
  where
    by : (t : Bool) → (x.0 == slot) ≡ t → (open_at slot opens ≡ Some o → Contains opens (slot, o)) → Contains (x ∷ opens) (slot, o)
    by true e later =
        let n : x.0 ≡ slot = eqb-true x.0 slot e in
        let is : Some x.1 ≡ Some o = rw e at h in
        let one : x.1 ≡ o = cc (is) in
        (0, omega arith, ap (λ k. entry k x.1) n ∙ ap (λ y. entry slot y) one)
    by false e later =
        let more : open_at slot opens ≡ Some o = rw e at h in
        let c = later more in
        (suc c.0, let w = c.1 in omega arith, c.2)

all_before : (P : ℕ × Opened → Type 0) (xs ys : List (ℕ × Opened)) → All P (xs ++ ys) → All P xs
all_before P [] ys all = All-nil P
all_before P (x ∷ xs) ys all = All-cons P x xs (All-head P x (xs ++ ys) all) (all_before P xs ys (All-tail P x (xs ++ ys) all))

module _ (opens : List (ℕ × Opened)) (slot : ℕ) (o : Opened) (s : StandsIn opens slot o) where
  pub is_found : open_at slot opens ≡ Some o
  is_found = ap (open_at slot) s.opens_are ∙ found_in slot o s.before s.after (all_before (HasOtherSlot slot) s.before s.after s.apart)

  pub is_put : (o' : Opened) → put_at slot o' opens ≡ s.before ++ ((slot, o') ∷ s.after)
  is_put o' = ap (put_at slot o') s.opens_are ∙ put_in slot o o' s.before s.after (all_before (HasOtherSlot slot) s.before s.after s.apart)

  pub found_put : (o' : Opened) → open_at slot (put_at slot o' opens) ≡ Some o'
  found_put o' = ap (open_at slot) (is_put o') ∙ found_in slot o' s.before s.after (all_before (HasOtherSlot slot) s.before s.after s.apart)

-- from what open_at finds
pub stands_by : (first slot : ℕ) (opens : List (ℕ × Opened)) (o : Opened) → AreRising first opens → open_at slot opens ≡ Some o → StandsIn opens slot o
stands_by first slot opens o r h = stands_there first slot o opens r (found_there slot opens o h)
