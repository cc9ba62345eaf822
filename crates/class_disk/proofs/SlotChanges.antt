-- One slot of the table changes: what that does to the open requests, to those with no packet, and to what is reserved.
use Rattle.std.proofs.Common.{◌≡◌, ◌≢◌, ◌⊎◌, ◌==◌, inl, inr, ℕ, zero, suc, ◌+◌, true, false, List, [], ◌∷◌, ◌++◌, Option, Some, None, refl, sym, ◌∙◌, ap, subst, arith, length, get_or, is_some, cond, count_by}
use Rattle.class_disk.proofs.Common.{IsPermutation, cases_Bool, eqb-true, eqb-false, sum_by-cons, IsPermutation-middle, SetsRoom, Places, Slot, Transfer, Opened, ClosedSlot, opened_of, held_as, open_from, held_from, open_at, room_of, rooms_from}
use Rattle.class_disk.specs.declared.requests.Slot.TheVariants.{Reserved, Open}
use Rattle.class_disk.proofs.Slots.{Slots, open_is, room_in, same_rooms, rest_of, rest_is}

-- what a slot adds to the open requests, and to those with no packet
abbrev pub open_step : ℕ → Option Slot → List (ℕ × Opened) → List (ℕ × Opened)
open_step slot None later = later
open_step slot (Some (Reserved places)) later = later
open_step slot (Some (Open t)) later = (slot, opened_of t) ∷ later

abbrev pub held_step : ℕ → Option Slot → List ClosedSlot → List ClosedSlot
held_step slot None later = later
held_step slot (Some (Reserved places)) later = held_as slot places ∷ later
held_step slot (Some (Open t)) later = later

pub opens_split : (first : ℕ) (slots : Slots) → open_from first slots ≡ open_step first (get_or slots zero None) (open_from (first + 1) (rest_of slots))
opens_split first [] = refl
opens_split first (None ∷ rest) = refl
opens_split first (Some (Reserved places) ∷ rest) = refl
opens_split first (Some (Open t) ∷ rest) = refl

held_split : (first : ℕ) (slots : Slots) → held_from first slots ≡ held_step first (get_or slots zero None) (held_from (first + 1) (rest_of slots))
held_split first [] = refl
held_split first (None ∷ rest) = refl
held_split first (Some (Reserved places) ∷ rest) = refl
held_split first (Some (Open t) ∷ rest) = refl

open_append : (slot : ℕ) (x : Option Slot) (before after : List (ℕ × Opened)) → open_step slot x (before ++ after) ≡ open_step slot x before ++ after
open_append slot None before after = refl
open_append slot (Some (Reserved places)) before after = refl
open_append slot (Some (Open t)) before after = refl

held_append : (slot : ℕ) (x : Option Slot) (before after : List ClosedSlot) → held_step slot x (before ++ after) ≡ held_step slot x before ++ after
held_append slot None before after = refl
held_append slot (Some (Reserved places)) before after = refl
held_append slot (Some (Open t)) before after = refl

-- slots none of which is there
none_there : (first : ℕ) (slots : Slots) → ((i : ℕ) → get_or slots i None ≡ None) → (open_from first slots ≡ []) × (held_from first slots ≡ [])
none_there first [] none = (refl, refl)
none_there first (x ∷ rest) none =
    let r = none_there (first + 1) rest (λ i. none (suc i)) in
    let e : x ≡ None = none zero in (
      opens_split first (x ∷ rest) ∙ ap (λ y. open_step first y (open_from (first + 1) rest)) e ∙ r.0,
      held_split first (x ∷ rest) ∙ ap (λ y. held_step first y (held_from (first + 1) rest)) e ∙ r.1,
    )

-- slots with the same in them
pub same_slots : (first : ℕ) (slots other : Slots) → ((i : ℕ) → get_or slots i None ≡ get_or other i None)
    → (open_from first slots ≡ open_from first other) × (held_from first slots ≡ held_from first other)
same_slots first [] other same = let r = none_there first other (λ i. sym (same i)) in (sym r.0, sym r.1)
same_slots first (x ∷ rest) other same =
    let r = same_slots (first + 1) rest (rest_of other) (λ i. same (suc i) ∙ sym (rest_is other i)) in
    let e : x ≡ get_or other zero None = same zero in (
      opens_split first (x ∷ rest) ∙ ap (λ y. open_step first y (open_from (first + 1) rest)) e
          ∙ ap (open_step first (get_or other zero None)) r.0 ∙ sym (opens_split first other),
      held_split first (x ∷ rest) ∙ ap (λ y. held_step first y (held_from (first + 1) rest)) e
          ∙ ap (held_step first (get_or other zero None)) r.1 ∙ sym (held_split first other),
    )

-- one slot had x, and has y; all before it and all after it are the same
pub record ChangesIn (first slot : ℕ) (slots slots' : Slots) (x y : Option Slot) : Type 0 where
  pub front : List (ℕ × Opened)
  pub back : List (ℕ × Opened)
  pub held_front : List ClosedSlot
  pub held_back : List ClosedSlot
  pub opens : open_from first slots ≡ front ++ open_step slot x back
  pub opens' : open_from first slots' ≡ front ++ open_step slot y back
  pub held : held_from first slots ≡ held_front ++ held_step slot x held_back
  pub held' : held_from first slots' ≡ held_front ++ held_step slot y held_back

pub changes_in : (first at slot : ℕ) (slots slots' : Slots) (x y : Option Slot) → slot ≡ first + at → get_or slots at None ≡ x
    → get_or slots' at None ≡ y → ((i : ℕ) → i ≢ at → get_or slots' i None ≡ get_or slots i None) → ChangesIn first slot slots slots' x y
changes_in first zero slot slots slots' x y n was is others =
    let here : first ≡ slot = omega arith in
    let r = same_slots (first + 1) (rest_of slots') (rest_of slots)
    (λ i. rest_is slots' i ∙ others (suc i) (λ e. omega (arith, e)) ∙ sym (rest_is slots i)) in
    record {
      front = [];
      back = open_from (first + 1) (rest_of slots);
      held_front = [];
      held_back = held_from (first + 1) (rest_of slots);
      opens = opens_split first slots ∙ ap (λ z. open_step first z (open_from (first + 1) (rest_of slots))) was
          ∙ ap (λ k. open_step k x (open_from (first + 1) (rest_of slots))) here;
      opens' = opens_split first slots' ∙ ap (λ z. open_step first z (open_from (first + 1) (rest_of slots'))) is
          ∙ ap (open_step first y) r.0 ∙ ap (λ k. open_step k y (open_from (first + 1) (rest_of slots))) here;
      held = held_split first slots ∙ ap (λ z. held_step first z (held_from (first + 1) (rest_of slots))) was
          ∙ ap (λ k. held_step k x (held_from (first + 1) (rest_of slots))) here;
      held' = held_split first slots' ∙ ap (λ z. held_step first z (held_from (first + 1) (rest_of slots'))) is
          ∙ ap (held_step first y) r.1 ∙ ap (λ k. held_step k y (held_from (first + 1) (rest_of slots))) here;
    }
changes_in first (suc at) slot slots slots' x y n was is others =
    let r = changes_in (first + 1) at slot (rest_of slots) (rest_of slots') x y (omega arith) (rest_is slots at ∙ was) (rest_is slots' at ∙ is)
    (λ i differs. rest_is slots' i ∙ others (suc i) (λ e. differs (omega (arith, e))) ∙ sym (rest_is slots i)) in
    let e : get_or slots' zero None ≡ get_or slots zero None = others zero (λ e. omega (arith, e)) in
    let z : Option Slot = get_or slots zero None in
    record {
      front = open_step first z r.front;
      back = r.back;
      held_front = held_step first z r.held_front;
      held_back = r.held_back;
      opens = opens_split first slots ∙ ap (open_step first z) r.opens ∙ open_append first z r.front (open_step slot x r.back);
      opens' = opens_split first slots' ∙ ap (λ w. open_step first w (open_from (first + 1) (rest_of slots'))) e
          ∙ ap (open_step first z) r.opens' ∙ open_append first z r.front (open_step slot y r.back);
      held = held_split first slots ∙ ap (held_step first z) r.held ∙ held_append first z r.held_front (held_step slot x r.held_back);
      held' = held_split first slots' ∙ ap (λ w. held_step first w (held_from (first + 1) (rest_of slots'))) e
          ∙ ap (held_step first z) r.held' ∙ held_append first z r.held_front (held_step slot y r.held_back);
    }

-- what changes of what is reserved
pub changes_room : (slot : ℕ) (slots slots' : Slots) (x y : Option Slot) → get_or slots slot None ≡ x → get_or slots' slot None ≡ y
    → ((i : ℕ) → i ≢ slot → get_or slots' i None ≡ get_or slots i None)
    → SetsRoom (rooms_from slots) slot (room_of x) (room_of y) (rooms_from slots')
changes_room slot slots slots' x y was is others = record {
  was = room_in slots slot ∙ ap room_of was;
  is = room_in slots' slot ∙ ap room_of is;
  others = λ other away. room_in slots' other ∙ ap room_of (others other away) ∙ sym (room_in slots other);
}

pub same_or : (a b : ℕ) → (a ≡ b) ⊎ (a ≢ b)
same_or a b = by (cases_Bool (a == b))
  where
    by : ((a == b) ≡ true) ⊎ ((a == b) ≡ false) → (a ≡ b) ⊎ (a ≢ b)
    by (inl e) = inl (eqb-true a b e)
    by (inr e) = inr (eqb-false a b e)

-- nothing changes of it
pub keeps_rooms : (slot : ℕ) (slots slots' : Slots) (x y : Option Slot) → room_of y ≡ room_of x → get_or slots slot None ≡ x
    → get_or slots' slot None ≡ y → ((i : ℕ) → i ≢ slot → get_or slots' i None ≡ get_or slots i None) → rooms_from slots' ≡ rooms_from slots
keeps_rooms slot slots slots' x y e was is others = same_rooms slots' slots each
  where
    each : (k : ℕ) → room_of (get_or slots' k None) ≡ room_of (get_or slots k None)
    each k = elim (same_or k slot) [
      | inl here ↦ ap (λ n. room_of (get_or slots' n None)) here ∙ ap room_of is ∙ e ∙ ap room_of (sym was) ∙ ap (λ n. room_of (get_or slots n None)) (sym here)
      | inr away ↦ ap room_of (others k away)
    ]

-- as many slots as requests
pub count_is : (first : ℕ) (slots : Slots) → length (open_from first slots) + length (held_from first slots) ≡ count_by is_some slots
count_is first [] = refl
count_is first (None ∷ rest) = omega (arith, count_is (first + 1) rest, sum_by-cons (λ o. cond (is_some o) 1 0) None rest)
count_is first (Some (Reserved places) ∷ rest) =
    omega (arith, count_is (first + 1) rest, sum_by-cons (λ o. cond (is_some o) 1 0) (Some (Reserved places)) rest)
count_is first (Some (Open t) ∷ rest) =
    omega (arith, count_is (first + 1) rest, sum_by-cons (λ o. cond (is_some o) 1 0) (Some (Open t)) rest)

-- A SLOT IS FILLED, OR GIVEN UP

-- what was there: nothing, or a request with no packet
pub record Fills (held : ClosedSlot) (slots slots' : Slots) : Type 0 where
  pub opens : open_from 0 slots' ≡ open_from 0 slots
  pub more : IsPermutation (held_from 0 slots') (held ∷ held_from 0 slots)

fills_by : (slot : ℕ) (y : Slot) (held : ClosedSlot) (slots slots' : Slots) → ((later : List (ℕ × Opened)) → open_step slot (Some y) later ≡ later)
    → ((later : List ClosedSlot) → held_step slot (Some y) later ≡ held ∷ later) → get_or slots slot None ≡ None → get_or slots' slot None ≡ Some y
    → ((i : ℕ) → i ≢ slot → get_or slots' i None ≡ get_or slots i None) → Fills held slots slots'
fills_by slot y held slots slots' no_open one_held was is others =
    let r = changes_in 0 slot slot slots slots' None (Some y) (omega arith) was is others in
    record {
      opens = r.opens' ∙ ap (λ zs. r.front ++ zs) (no_open r.back) ∙ sym r.opens;
      more = subst (λ new. IsPermutation new (held ∷ held_from 0 slots)) (sym (r.held' ∙ ap (λ zs. r.held_front ++ zs) (one_held r.held_back)))
          (subst (λ old. IsPermutation (r.held_front ++ held ∷ r.held_back) (held ∷ old)) (sym r.held) (IsPermutation-middle r.held_front held r.held_back));
    }

pub fills_reserved : (slot : ℕ) (places : Places) (slots slots' : Slots) → get_or slots slot None ≡ None
    → get_or slots' slot None ≡ Some (Reserved places) → ((i : ℕ) → i ≢ slot → get_or slots' i None ≡ get_or slots i None)
    → Fills (held_as slot places) slots slots'
fills_reserved slot places slots slots' = fills_by slot (Reserved places) (held_as slot places) slots slots' (λ later. refl) (λ later. refl)

-- A PACKET COMES

pub record Opens (slot : ℕ) (places : Places) (o : Opened) (slots slots' : Slots) : Type 0 where
  pub opens : IsPermutation (open_from 0 slots') ((slot, o) ∷ open_from 0 slots)
  pub fewer : IsPermutation (held_from 0 slots) (held_as slot places ∷ held_from 0 slots')
  pub is_open : open_at slot (open_from 0 slots') ≡ Some o

pub opens_there : (slot : ℕ) (places : Places) (t : Transfer) (slots slots' : Slots) → get_or slots slot None ≡ Some (Reserved places)
    → get_or slots' slot None ≡ Some (Open t) → ((i : ℕ) → i ≢ slot → get_or slots' i None ≡ get_or slots i None)
    → Opens slot places (opened_of t) slots slots'
opens_there slot places t slots slots' was is others =
    let r = changes_in 0 slot slot slots slots' (Some (Reserved places)) (Some (Open t)) (omega arith) was is others in
    record {
      opens = subst (λ new. IsPermutation new ((slot, opened_of t) ∷ open_from 0 slots)) (sym r.opens')
          (subst (λ old. IsPermutation (r.front ++ (slot, opened_of t) ∷ r.back) ((slot, opened_of t) ∷ old)) (sym r.opens)
          (IsPermutation-middle r.front (slot, opened_of t) r.back));
      fewer = subst (λ old. IsPermutation old (held_as slot places ∷ held_from 0 slots')) (sym r.held)
          (subst (λ new. IsPermutation (r.held_front ++ held_as slot places ∷ r.held_back) (held_as slot places ∷ new)) (sym r.held')
          (IsPermutation-middle r.held_front (held_as slot places) r.held_back));
      is_open = open_is 0 slot slot slots' t (omega arith) is;
    }

-- A PACKET IS TAKEN OUT

pub record TakesOff (slot : ℕ) (o : Opened) (slots slots' : Slots) : Type 0 where
  pub opens : IsPermutation (open_from 0 slots) ((slot, o) ∷ open_from 0 slots')
  pub held : held_from 0 slots' ≡ held_from 0 slots
  pub is_open : open_at slot (open_from 0 slots) ≡ Some o

pub takes_off : (slot : ℕ) (t : Transfer) (slots slots' : Slots) → get_or slots slot None ≡ Some (Open t) → get_or slots' slot None ≡ None
    → ((i : ℕ) → i ≢ slot → get_or slots' i None ≡ get_or slots i None) → TakesOff slot (opened_of t) slots slots'
takes_off slot t slots slots' was is others =
    let r = changes_in 0 slot slot slots slots' (Some (Open t)) None (omega arith) was is others in
    record {
      opens = subst (λ old. IsPermutation old ((slot, opened_of t) ∷ open_from 0 slots')) (sym r.opens)
          (subst (λ new. IsPermutation (r.front ++ (slot, opened_of t) ∷ r.back) ((slot, opened_of t) ∷ new)) (sym r.opens')
          (IsPermutation-middle r.front (slot, opened_of t) r.back));
      held = r.held' ∙ sym r.held;
      is_open = open_is 0 slot slot slots t (omega arith) was;
    }
