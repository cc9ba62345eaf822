-- Spots: of packets, and those that are reserved.
use Rattle.std.proofs.Common.{◌≡◌, ◌≢◌, ℕ, zero, suc, false, List, [], ◌∷◌, ◌++◌, Option, Some, None, refl, sym, ◌∙◌, ap, subst, map, eqb, rules, tests, slice_index_or}
use Rattle.std.specs.Prelude.{All, IsPermutation}
use Rattle.std.specs.List.{IsDistinct, AllByRecursion}
use Rattle.std.proofs.Math.ListN.{get_or-map}
use Rattle.std.proofs.lemmas.List.Elements.{All-nil, All-cons, All-head, All-tail, All-weaker}
use Rattle.std.proofs.lemmas.List.Sorted.{IsPermutation-refl, IsPermutation-cons, IsPermutation-trans, IsPermutation-middle}
use Rattle.std.proofs.lemmas.Map.Keys.{IsDistinct-IsPermutation, IsDistinct-cons, IsDistinct-head, IsDistinct-tail}
use Rattle.machine.specs.declared.Request.{Request}
use Rattle.device.specs.View.{Reserved, room_at, Packet, packet_spot, IsOffRooms}
use Rattle.device.specs.Served.{SetsRoom}
use Rattle.port.specs.inside.TableCalls.{SetsSlot}
use Rattle.port.specs.Shown.{reserved_in, reserved_of}
use Rattle.port.specs.inside.Invariant.{IsTaken}

flips : (x y : ℕ) → eqb x y ≡ eqb y x
flips x y = search (rules, tests)

pub distinct_same : (xs ys : List ℕ) → IsPermutation xs ys → IsDistinct eqb xs → IsDistinct eqb ys
distinct_same xs ys p h = IsDistinct-IsPermutation eqb flips xs ys p h

abbrev pub Slots : Type 0
Slots = List (Option (Option Request))

-- WHAT IS RESERVED

pub at_slot : (slots : Slots) (k : ℕ) → room_at (map reserved_in slots) k ≡ reserved_in (slice_index_or slots k None)
at_slot slots k = get_or-map reserved_in slots k None

pub sets_room : (old : Slots) (spot : ℕ) (before after : Option (Option Request)) (new : Slots) → SetsSlot old spot before after new
    → SetsRoom (map reserved_in old) spot (reserved_in before) (reserved_in after) (map reserved_in new)
sets_room old spot before after new h = record {
  was = at_slot old spot ∙ ap reserved_in h.was;
  is = at_slot new spot ∙ ap reserved_in h.is;
  others = λ other away. at_slot new other ∙ ap reserved_in (h.others other away) ∙ sym (at_slot old other);
}

-- one more in front, where there is one
abbrev with_head : Option (Option Request) → List Request → List Request
with_head None rest = rest
with_head (Some None) rest = rest
with_head (Some (Some r)) rest = r ∷ rest

reserved_cons : (x : Option (Option Request)) (xs : Slots) → reserved_of (x ∷ xs) ≡ with_head x (reserved_of xs)
reserved_cons None xs = refl
reserved_cons (Some None) xs = refl
reserved_cons (Some (Some r)) xs = refl

none_reserved : (ys : Slots) → ((k : ℕ) → slice_index_or ys k None ≡ None) → reserved_of ys ≡ []
none_reserved [] h = refl
none_reserved (y ∷ ys) h =
    let here : y ≡ None = h 0 in
    reserved_cons y ys ∙ ap (λ x. with_head x (reserved_of ys)) here ∙ none_reserved ys (λ k. h (suc k))

same_reserved : (xs ys : Slots) → ((k : ℕ) → slice_index_or ys k None ≡ slice_index_or xs k None) → reserved_of ys ≡ reserved_of xs
same_reserved [] ys h = none_reserved ys h
same_reserved (x ∷ xs) [] h = sym (none_reserved (x ∷ xs) (λ k. sym (h k)))
same_reserved (x ∷ xs) (y ∷ ys) h =
    let here : y ≡ x = h 0 in
    reserved_cons y ys ∙ ap (λ z. with_head z (reserved_of ys)) here ∙ ap (with_head x) (same_reserved xs ys (λ k. h (suc k))) ∙ sym (reserved_cons x xs)

-- with nothing in front, or with one that moves back
under_head : (x : Option (Option Request)) (rs qs : List Request) (r : Request) → IsPermutation rs (r ∷ qs) → IsPermutation (with_head x rs) (r ∷ with_head x qs)
under_head None rs qs r p = p
under_head (Some None) rs qs r p = p
under_head (Some (Some q)) rs qs r p = IsPermutation-trans _ _ _ (IsPermutation-cons q _ _ p) (IsPermutation-middle (q ∷ []) r qs)

-- the list by its head and its rest, also where it has none
head_of : Slots → Option (Option Request)
head_of xs = slice_index_or xs 0 None

abbrev rest_of : Slots → Slots
rest_of [] = []
rest_of (x ∷ xs) = xs

by_head : (xs : Slots) → reserved_of xs ≡ with_head (slice_index_or xs 0 None) (reserved_of (rest_of xs))
by_head [] = refl
by_head (x ∷ xs) = reserved_cons x xs

rest_at : (xs : Slots) (k : ℕ) → slice_index_or (rest_of xs) k None ≡ slice_index_or xs (suc k) None
rest_at [] k = refl
rest_at (x ∷ xs) k = refl

-- nothing is reserved there
abbrev IsBlank : Option (Option Request) → Type 0
IsBlank None = Unit {0}
IsBlank (Some None) = Unit {0}
IsBlank (Some (Some r)) = ⊥

blank_head : (x : Option (Option Request)) (rs : List Request) → IsBlank x → with_head x rs ≡ rs
blank_head None rs b = refl
blank_head (Some None) rs b = refl
blank_head (Some (Some r)) rs b = absurd b

pub one_more : (spot : ℕ) (old new : Slots) (before : Option (Option Request)) (r : Request) → IsBlank before → SetsSlot old spot before (Some (Some r)) new
    → IsPermutation (reserved_of new) (r ∷ reserved_of old)
one_more zero old new before r blank h =
    let news : reserved_of new ≡ r ∷ reserved_of (rest_of new) = by_head new ∙ ap (λ x. with_head x (reserved_of (rest_of new))) h.is in
    let olds : reserved_of old ≡ reserved_of (rest_of old) = by_head old ∙ ap (λ x. with_head x (reserved_of (rest_of old))) h.was ∙ blank_head before _ blank in
    let rests : reserved_of (rest_of new) ≡ reserved_of (rest_of old) = same_reserved (rest_of old) (rest_of new) (λ k. rest_at new k ∙ h.others (suc k) (away k) ∙ sym (rest_at old k)) in
    subst (λ rs. IsPermutation rs (r ∷ reserved_of old)) (sym (news ∙ ap (λ (rs : List Request). r ∷ rs) (rests ∙ sym olds))) (IsPermutation-refl (r ∷ reserved_of old))
  where
    away : (k : ℕ) → suc k ≢ 0
    away k = search (rules, tests)
one_more (suc spot) old new before r blank h =
    let rest : IsPermutation (reserved_of (rest_of new)) (r ∷ reserved_of (rest_of old)) = one_more spot (rest_of old) (rest_of new) before r blank (record {
      was = rest_at old spot ∙ h.was;
      is = rest_at new spot ∙ h.is;
      others = λ k away. rest_at new k ∙ h.others (suc k) (λ same. away (less k spot same)) ∙ sym (rest_at old k);
    }) in
    let heads : slice_index_or new 0 None ≡ slice_index_or old 0 None = h.others 0 (first spot) in
    subst (λ rs. IsPermutation rs (r ∷ reserved_of old)) (sym (by_head new ∙ ap (λ x. with_head x (reserved_of (rest_of new))) heads))
    (subst (λ rs. IsPermutation (with_head (slice_index_or old 0 None) (reserved_of (rest_of new))) (r ∷ rs)) (sym (by_head old)) (under_head (slice_index_or old 0 None) _ _ r rest))
  where
    less : (m n : ℕ) → suc m ≡ suc n → m ≡ n
    less m n e = cc (e)

    first : (n : ℕ) → 0 ≢ suc n
    first n = search (rules, tests)

flip_slot : (old : Slots) (spot : ℕ) (before after : Option (Option Request)) (new : Slots) → SetsSlot old spot before after new → SetsSlot new spot after before old
flip_slot old spot before after new h = record { was = h.is; is = h.was; others = λ other away. sym (h.others other away) }

-- one that was reserved is so no more
pub one_less : (spot : ℕ) (old new : Slots) (after : Option (Option Request)) (r : Request) → IsBlank after → SetsSlot old spot (Some (Some r)) after new
    → IsPermutation (reserved_of old) (r ∷ reserved_of new)
one_less spot old new after r blank h = one_more spot new old after r blank (flip_slot old spot (Some (Some r)) after new h)

-- THE SPOTS OF PACKETS

not_taken : (r : Request) → Some (Some r) ≡ Some None → ⊥
not_taken r e = cc (e)

-- a spot that nothing has, or that is reserved, is no packet's
all_away : (slots : Slots) (spot : ℕ) (x : Option (Option Request)) → slice_index_or slots spot None ≡ x → (x ≡ Some None → ⊥) → (ys : List ℕ) → All (IsTaken slots) ys
    → All (λ y. y ≢ spot) ys
all_away slots spot x at other ys taken = All-weaker (IsTaken slots) (λ y. y ≢ spot) (λ y t same. other (sym at ∙ ap (λ n. slice_index_or slots n None) (sym same) ∙ t)) ys taken

by_tests : (spot : ℕ) (ys : List ℕ) → All (λ y. y ≢ spot) ys → AllByRecursion (λ y. eqb spot y ≡ false) ys
by_tests spot [] h = tt
by_tests spot (y ∷ ys) h = (differ spot y (All-head (λ z. z ≢ spot) y ys h), by_tests spot ys (All-tail (λ z. z ≢ spot) y ys h))
  where
    differ : (m n : ℕ) → n ≢ m → eqb m n ≡ false
    differ m n h = search (rules, tests)

from_tests : (spot : ℕ) (ys : List ℕ) → AllByRecursion (λ y. eqb spot y ≡ false) ys → All (λ y. y ≢ spot) ys
from_tests spot [] h = All-nil (λ y. y ≢ spot)
from_tests spot (y ∷ ys) h = All-cons (λ z. z ≢ spot) y ys (differ spot y h.0) (from_tests spot ys h.1)
  where
    differ : (m n : ℕ) → eqb m n ≡ false → n ≢ m
    differ m n h same = search (rules, tests)

taken_after : (old : Slots) (spot : ℕ) (before after : Option (Option Request)) (new : Slots) → SetsSlot old spot before after new → (ys : List ℕ)
    → All (λ y. y ≢ spot) ys → All (IsTaken old) ys → All (IsTaken new) ys
taken_after old spot before after new h [] away taken = All-nil (IsTaken new)
taken_after old spot before after new h (y ∷ ys) away taken =
    All-cons (IsTaken new) y ys (h.others y (All-head (λ z. z ≢ spot) y ys away) ∙ All-head (IsTaken old) y ys taken)
    (taken_after old spot before after new h ys (All-tail (λ z. z ≢ spot) y ys away) (All-tail (IsTaken old) y ys taken))

-- another spot changes
pub taken_stays : (old : Slots) (spot : ℕ) (before after : Option (Option Request)) (new : Slots) → SetsSlot old spot before after new → (before ≡ Some None → ⊥) → (ys : List ℕ)
    → All (IsTaken old) ys → All (IsTaken new) ys
taken_stays old spot before after new h other ys taken = taken_after old spot before after new h ys (all_away old spot before h.was other ys taken) taken

-- a packet comes to a spot that is reserved
pub spots_more : (old : Slots) (spot : ℕ) (r : Request) (new : Slots) → SetsSlot old spot (Some (Some r)) (Some None) new → (ys : List ℕ) → All (IsTaken old) ys → IsDistinct eqb ys → IsDistinct eqb (spot ∷ ys)
spots_more old spot r new h ys taken distinct = IsDistinct-cons eqb spot ys (by_tests spot ys (all_away old spot (Some (Some r)) h.was (not_taken r) ys taken)) distinct

pub taken_more : (old : Slots) (spot : ℕ) (r : Request) (new : Slots) → SetsSlot old spot (Some (Some r)) (Some None) new → (ys : List ℕ) → All (IsTaken old) ys → All (IsTaken new) (spot ∷ ys)
taken_more old spot r new h ys taken = All-cons (IsTaken new) spot ys h.is (taken_stays old spot (Some (Some r)) (Some None) new h (not_taken r) ys taken)

-- a packet leaves its spot
pub taken_left : (old : Slots) (spot : ℕ) (after : Option (Option Request)) (new : Slots) → SetsSlot old spot (Some None) after new → (ys : List ℕ) → IsDistinct eqb (spot ∷ ys) → All (IsTaken old) (spot ∷ ys)
    → All (IsTaken new) ys
taken_left old spot after new h ys distinct taken =
    taken_after old spot (Some None) after new h ys (from_tests spot ys (IsDistinct-head eqb spot ys distinct)) (All-tail (IsTaken old) spot ys taken)

pub distinct_left : (spot : ℕ) (ys : List ℕ) → IsDistinct eqb (spot ∷ ys) → IsDistinct eqb ys
distinct_left spot ys h = IsDistinct-tail eqb spot ys h

-- what the packets show of their spots
pub off_rooms : (slots : Slots) (ps : List Packet) → All (IsTaken slots) (map packet_spot ps) → All (IsOffRooms (map reserved_in slots)) ps
off_rooms slots [] h = All-nil (IsOffRooms (map reserved_in slots))
off_rooms slots (p ∷ ps) h =
    All-cons (IsOffRooms (map reserved_in slots)) p ps (at_slot slots p.spot ∙ ap reserved_in (All-head (IsTaken slots) p.spot (map packet_spot ps) h)) (off_rooms slots ps (All-tail (IsTaken slots) p.spot (map packet_spot ps) h))

-- WHAT IS SHOWN IS WHAT IS RESERVED

abbrev head_by : Option Reserved → List Request → List Request
head_by None rest = rest
head_by (Some r) rest = r.request ∷ rest

shown_cons : (x : Option (Option Request)) (xs : Slots) → reserved_of (x ∷ xs) ≡ head_by (reserved_in x) (reserved_of xs)
shown_cons None xs = refl
shown_cons (Some None) xs = refl
shown_cons (Some (Some r)) xs = refl

none_shown : (ys : Slots) → ((k : ℕ) → reserved_in (slice_index_or ys k None) ≡ None) → reserved_of ys ≡ []
none_shown [] h = refl
none_shown (y ∷ ys) h =
    let here : reserved_in y ≡ None = h 0 in
    shown_cons y ys ∙ ap (λ x. head_by x (reserved_of ys)) here ∙ none_shown ys (λ k. h (suc k))

pub same_shown : (xs ys : Slots) → ((k : ℕ) → reserved_in (slice_index_or ys k None) ≡ reserved_in (slice_index_or xs k None)) → reserved_of ys ≡ reserved_of xs
same_shown [] ys h = none_shown ys h
same_shown (x ∷ xs) [] h = sym (none_shown (x ∷ xs) (λ k. sym (h k)))
same_shown (x ∷ xs) (y ∷ ys) h =
    let here : reserved_in y ≡ reserved_in x = h 0 in
    shown_cons y ys ∙ ap (λ z. head_by z (reserved_of ys)) here ∙ ap (head_by (reserved_in x)) (same_shown xs ys (λ k. h (suc k))) ∙ sym (shown_cons x xs)

pub all_right : {X : Type 0} (P : X → Type 0) (xs ys : List X) → All P (xs ++ ys) → All P ys
all_right P [] ys h = h
all_right P (x ∷ xs) ys h = all_right P xs ys (All-tail P x (xs ++ ys) h)

pub all_left : {X : Type 0} (P : X → Type 0) (xs ys : List X) → All P (xs ++ ys) → All P xs
all_left P [] ys h = All-nil P
all_left P (x ∷ xs) ys h = All-cons P x xs (All-head P x (xs ++ ys) h) (all_left P xs ys (All-tail P x (xs ++ ys) h))

pub from_map : {X Y : Type 0} (P : Y → Type 0) (f : X → Y) (xs : List X) → All P (map f xs) → All (λ x. P (f x)) xs
from_map P f [] h = All-nil (λ x. P (f x))
from_map P f (x ∷ xs) h = All-cons (λ y. P (f y)) x xs (All-head P (f x) (map f xs) h) (from_map P f xs (All-tail P (f x) (map f xs) h))

pub away_of : (slots : Slots) (spot : ℕ) (r : Request) → slice_index_or slots spot None ≡ Some (Some r) → (ys : List ℕ) → All (IsTaken slots) ys → All (λ y. y ≢ spot) ys
away_of slots spot r at ys taken = all_away slots spot (Some (Some r)) at (not_taken r) ys taken
