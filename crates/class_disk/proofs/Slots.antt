-- The slots, and what stands in each of them.
use Rattle.std.proofs.Common.{◌≡◌, ◌≢◌, ◌<◌, inl, inr, ℕ, zero, suc, ◌+◌, ◌==◌, true, false, List, [], ◌∷◌, Option, Some, None, refl, sym, ◌∙◌, ap, arith, get_or}
use Rattle.class_disk.proofs.Common.{ne_eqb, eqb-false, cases_Bool, Slot, Transfer, Opened, opened_of, open_from, open_at, put_at, room_of, before, rooms_from}
use Rattle.device.specs.View.{Reserved as DeviceRoom, room_at}
use Rattle.class_disk.specs.declared.requests.Slot.TheVariants.{Reserved, Open}

abbrev pub Slots : Type 0
Slots = List (Option Slot)

differ : (a b : ℕ) → a ≢ b → (a == b) ≡ false
differ a b h = ne_eqb a b h

pub equals : (a : ℕ) → (a == a) ≡ true
equals a = elim (cases_Bool (a == a)) [
  | inl yes' ↦ yes'
  | inr no' ↦ absurd (eqb-false a a no' refl)
]

found : (slot : ℕ) (o : Opened) (rest : List (ℕ × Opened)) → open_at slot ((slot, o) ∷ rest) ≡ Some o
found slot o rest = let e : (slot == slot) ≡ true = equals slot in rw e refl

passed : (slot other : ℕ) (o : Opened) (rest : List (ℕ × Opened)) → other ≢ slot → open_at slot ((other, o) ∷ rest) ≡ open_at slot rest
passed slot other o rest h = let e : (other == slot) ≡ false = differ other slot h in rw e refl

pub put_here : (slot : ℕ) (o x : Opened) (rest : List (ℕ × Opened)) → put_at slot x ((slot, o) ∷ rest) ≡ (slot, x) ∷ rest
put_here slot o x rest = let e : (slot == slot) ≡ true = equals slot in rw e refl

pub put_later : (slot other : ℕ) (o x : Opened) (rest : List (ℕ × Opened)) → other ≢ slot
    → put_at slot x ((other, o) ∷ rest) ≡ (other, o) ∷ put_at slot x rest
put_later slot other o x rest h = let e : (other == slot) ≡ false = differ other slot h in rw e refl

-- nothing stands below the first slot
none_before : (slot first : ℕ) (slots : Slots) → slot < first → open_at slot (open_from first slots) ≡ None
none_before slot first [] low = refl
none_before slot first (None ∷ rest) low = none_before slot (first + 1) rest (omega arith)
none_before slot first (Some (Reserved places) ∷ rest) low = none_before slot (first + 1) rest (omega arith)
none_before slot first (Some (Open t) ∷ rest) low =
    passed slot first (opened_of t) (open_from (first + 1) rest) (λ e. omega (arith, e)) ∙ none_before slot (first + 1) rest (omega arith)

-- the open request of a slot
pub open_is : (first at slot : ℕ) (slots : Slots) (t : Transfer) → slot ≡ first + at → get_or slots at None ≡ Some (Open t)
    → open_at slot (open_from first slots) ≡ Some (opened_of t)
open_is first at slot [] t n h = absurd (cc (h))
open_is first zero slot (None ∷ rest) t n h = absurd (cc (h))
open_is first zero slot (Some (Reserved places) ∷ rest) t n h = absurd (cc (h))
open_is first zero slot (Some (Open u) ∷ rest) t n h =
    let is : u ≡ t = cc (h) in
    let here : slot ≡ first = omega arith in
    ap (λ k. open_at k ((first, opened_of u) ∷ open_from (first + 1) rest)) here
    ∙ found first (opened_of u) (open_from (first + 1) rest) ∙ ap (λ x. Some (opened_of x)) is
open_is first (suc at) slot (None ∷ rest) t n h = open_is (first + 1) at slot rest t (omega arith) h
open_is first (suc at) slot (Some (Reserved places) ∷ rest) t n h = open_is (first + 1) at slot rest t (omega arith) h
open_is first (suc at) slot (Some (Open u) ∷ rest) t n h =
    passed slot first (opened_of u) (open_from (first + 1) rest) (λ e. omega (arith, e)) ∙ open_is (first + 1) at slot rest t (omega arith) h

-- and back: what is open in a slot stands there
pub record Stands (slots : Slots) (at : ℕ) (o : Opened) : Type 0 where
  pub transfer : Transfer
  pub there : get_or slots at None ≡ Some (Open transfer)
  pub is : opened_of transfer ≡ o

pub is_there : (first at slot : ℕ) (slots : Slots) (o : Opened) → slot ≡ first + at → open_at slot (open_from first slots) ≡ Some o
    → Stands slots at o
is_there first at slot [] o n h = absurd (cc (h))
is_there first zero slot (None ∷ rest) o n h = absurd (let e = none_before slot (first + 1) rest (omega arith) in cc (h, e))
is_there first zero slot (Some (Reserved places) ∷ rest) o n h = absurd (let e = none_before slot (first + 1) rest (omega arith) in cc (h, e))
is_there first zero slot (Some (Open u) ∷ rest) o n h =
    let here : first ≡ slot = omega arith in
    let e : open_at slot ((first, opened_of u) ∷ open_from (first + 1) rest) ≡ Some (opened_of u) =
    ap (λ k. open_at slot ((k, opened_of u) ∷ open_from (first + 1) rest)) here ∙ found slot (opened_of u) (open_from (first + 1) rest) in
    record { transfer = u; there = refl; is = some_same (sym e ∙ h) }
  where
    some_same : {x y : Opened} → Some x ≡ Some y → x ≡ y
    some_same {x} {y} e = cc (e)
is_there first (suc at) slot (None ∷ rest) o n h =
    let r = is_there (first + 1) at slot rest o (omega arith) h in record { transfer = r.transfer; there = r.there; is = r.is }
is_there first (suc at) slot (Some (Reserved places) ∷ rest) o n h =
    let r = is_there (first + 1) at slot rest o (omega arith) h in record { transfer = r.transfer; there = r.there; is = r.is }
is_there first (suc at) slot (Some (Open u) ∷ rest) o n h =
    let r = is_there (first + 1) at slot rest o (omega arith)
    (sym (passed slot first (opened_of u) (open_from (first + 1) rest) (λ e. omega (arith, e))) ∙ h) in
    record { transfer = r.transfer; there = r.there; is = r.is }

-- WHAT IS RESERVED

before_at : (x : Option DeviceRoom) (xs : List (Option DeviceRoom)) (k : ℕ) → room_at (before x xs) (suc k) ≡ room_at xs k
before_at None [] k = refl
before_at None (y ∷ ys) k = refl
before_at (Some r) xs k = refl

before_first : (x : Option DeviceRoom) (xs : List (Option DeviceRoom)) → room_at (before x xs) 0 ≡ x
before_first None [] = refl
before_first None (y ∷ ys) = refl
before_first (Some r) xs = refl

-- what a slot shows
pub room_in : (slots : Slots) (k : ℕ) → room_at (rooms_from slots) k ≡ room_of (get_or slots k None)
room_in [] k = refl
room_in (x ∷ rest) zero = before_first (room_of x) (rooms_from rest)
room_in (x ∷ rest) (suc k) = before_at (room_of x) (rooms_from rest) k ∙ room_in rest k

-- slots that show nothing
pub no_rooms : (slots : Slots) → ((k : ℕ) → room_of (get_or slots k None) ≡ None) → rooms_from slots ≡ []
no_rooms [] none = refl
no_rooms (x ∷ rest) none =
    let e : room_of x ≡ None = none 0 in
    ap (λ y. before y (rooms_from rest)) e ∙ ap (before None) (no_rooms rest (λ k. none (suc k)))

abbrev pub rest_of : Slots → Slots
rest_of [] = []
rest_of (slot ∷ rest) = rest

pub rest_is : (slots : Slots) (i : ℕ) → get_or (rest_of slots) i None ≡ get_or slots (suc i) None
rest_is [] i = refl
rest_is (slot ∷ rest) i = refl

-- slots that show the same
pub same_rooms : (slots other : Slots) → ((k : ℕ) → room_of (get_or slots k None) ≡ room_of (get_or other k None)) → rooms_from slots ≡ rooms_from other
same_rooms [] other same = sym (no_rooms other (λ k. sym (same k)))
same_rooms (x ∷ rest) [] same = no_rooms (x ∷ rest) same
same_rooms (x ∷ rest) (y ∷ more) same =
    let e : room_of x ≡ room_of y = same 0 in
    ap (λ z. before z (rooms_from rest)) e ∙ ap (before (room_of y)) (same_rooms rest more (λ k. same (suc k)))
