-- An open request is taken out of its slot, changed, and put back.
use Rattle.std.proofs.Common.{◌≡◌, ◌≢◌, ℕ, zero, suc, ◌+◌, ◌==◌, true, false, if◌then◌else◌, List, [], ◌∷◌, ◌++◌, Option, Some, None, refl, sym, ◌∙◌, ap, subst, arith, get_or}
use Rattle.class_disk.proofs.Common.{get, Slot, Transfer, Table, Opened, TableView, ClosedSlot, opened_of, open_from, held_from, rooms_from, open_at, put_at, books_of, TakesOut, PutsBack, ended_books}
use Rattle.class_disk.specs.declared.requests.Slot.TheVariants.{Reserved, Open}
use Rattle.class_disk.proofs.Slots.{Slots, put_here, put_later, is_there, rest_of, rest_is}
use Rattle.class_disk.proofs.SlotChanges.{open_step, opens_split, same_slots, changes_in, keeps_rooms}

put_step : (slot first : ℕ) (z : Option Slot) (u : Opened) (later : List (ℕ × Opened)) → first ≢ slot
    → open_step first z (put_at slot u later) ≡ put_at slot u (open_step first z later)
put_step slot first None u later away = refl
put_step slot first (Some (Reserved places)) u later away = refl
put_step slot first (Some (Open t)) u later away = sym (put_later slot first (opened_of t) u later away)

put_is : (first at slot : ℕ) (slots slots' : Slots) (t u : Transfer) → slot ≡ first + at → get_or slots at None ≡ Some (Open t)
    → get_or slots' at None ≡ Some (Open u) → ((i : ℕ) → i ≢ at → get_or slots' i None ≡ get_or slots i None)
    → open_from first slots' ≡ put_at slot (opened_of u) (open_from first slots)
put_is first zero slot slots slots' t u n was is others =
    let here : slot ≡ first = omega arith in
    let r = same_slots (first + 1) (rest_of slots') (rest_of slots)
    (λ i. rest_is slots' i ∙ others (suc i) (λ e. omega (arith, e)) ∙ sym (rest_is slots i)) in
    let olds : open_from first slots ≡ (first, opened_of t) ∷ open_from (first + 1) (rest_of slots) =
    opens_split first slots ∙ ap (λ z. open_step first z (open_from (first + 1) (rest_of slots))) was in
    let news : open_from first slots' ≡ (first, opened_of u) ∷ open_from (first + 1) (rest_of slots) =
    opens_split first slots' ∙ ap (λ z. open_step first z (open_from (first + 1) (rest_of slots'))) is ∙ ap (open_step first (Some (Open u))) r.0 in
    news ∙ sym (ap (put_at slot (opened_of u)) olds ∙ ap (λ k. put_at k (opened_of u) ((first, opened_of t) ∷ open_from (first + 1) (rest_of slots))) here
    ∙ put_here first (opened_of t) (opened_of u) (open_from (first + 1) (rest_of slots)))
put_is first (suc at) slot slots slots' t u n was is others =
    let r = put_is (first + 1) at slot (rest_of slots) (rest_of slots') t u (omega arith) (rest_is slots at ∙ was) (rest_is slots' at ∙ is)
    (λ i differs. rest_is slots' i ∙ others (suc i) (λ e. differs (omega (arith, e))) ∙ sym (rest_is slots i)) in
    let e : get_or slots' zero None ≡ get_or slots zero None = others zero (λ e. omega (arith, e)) in
    opens_split first slots' ∙ ap (λ w. open_step first w (open_from (first + 1) (rest_of slots'))) e
    ∙ ap (open_step first (get_or slots zero None)) r
    ∙ put_step slot first (get_or slots zero None) (opened_of u) (open_from (first + 1) (rest_of slots)) (λ e. omega (arith, e))
    ∙ ap (put_at slot (opened_of u)) (sym (opens_split first slots))

-- what stands where a request is open
pub stands_there : (table : Table) (slot : ℕ) (o : Opened) → open_at slot (books_of table).opens ≡ Some o → (t : Transfer) × (get table.slots slot ≡ Some (Open t))
stands_there table slot o is_open = let s = is_there 0 slot slot table.slots.slots o (omega arith) is_open in (s.transfer, s.there)

one_transfer : (s : Option Slot) (t u : Transfer) → s ≡ Some (Open t) → s ≡ Some (Open u) → t ≡ u
one_transfer s t u a b = cc (a, b)

-- and it is that request
pub stands_as : (table : Table) (slot : ℕ) (t : Transfer) (o : Opened) → get table.slots slot ≡ Some (Open t)
    → open_at slot (books_of table).opens ≡ Some o → opened_of t ≡ o
stands_as table slot t o there is_open =
    let s = is_there 0 slot slot table.slots.slots o (omega arith) is_open in
    ap opened_of (one_transfer (get table.slots slot) t s.transfer there s.there) ∙ s.is

-- what the whole turn leaves
pub record Replaces (old new : Table) (slot : ℕ) (u : Transfer) : Type 0 where
  pub opens : open_from 0 new.slots.slots ≡ put_at slot (opened_of u) (open_from 0 old.slots.slots)
  pub held : held_from 0 new.slots.slots ≡ held_from 0 old.slots.slots
  pub rooms : rooms_from new.slots.slots ≡ rooms_from old.slots.slots
  pub same_places : new.slots.capacity ≡ old.slots.capacity
  pub after : new ≡ record old { slots = new.slots }

pub replaces : (old mid new : Table) (slot : ℕ) (t u : Transfer) → get old.slots slot ≡ Some (Open t) → TakesOut old slot mid
    → PutsBack mid slot u new → Replaces old new slot u
replaces old mid new slot t u was out back =
    let others : (i : ℕ) → i ≢ slot → get_or new.slots.slots i None ≡ get_or old.slots.slots i None =
    λ i away. back.updates.others i away ∙ out.updates.others i away in
    let r = changes_in 0 slot slot old.slots.slots new.slots.slots (Some (Open t)) (Some (Open u)) (omega arith) was back.updates.changed others in
    record {
      opens = put_is 0 slot slot old.slots.slots new.slots.slots t u (omega arith) was back.updates.changed others;
      held = r.held' ∙ sym r.held;
      rooms = keeps_rooms slot old.slots.slots new.slots.slots (Some (Open t)) (Some (Open u)) refl was back.updates.changed others;
      same_places = back.same_places ∙ out.same_places;
      after = back.after ∙ ap (λ (x : Table). record x { slots = new.slots }) out.after;
    }

-- as the books have it
pub books_replaced : (old new : Table) (slot : ℕ) (u : Transfer) (o : Opened) → opened_of u ≡ o → Replaces old new slot u
    → books_of new ≡ record (books_of old) { opens = put_at slot o (books_of old).opens }
books_replaced old new slot u o is r =
    ap books_of r.after
    ∙ ap (λ (os : List (ℕ × Opened)). record (books_of old) { opens = os; held = held_from 0 new.slots.slots; rooms = rooms_from new.slots.slots; slot_places = new.slots.capacity }) (r.opens ∙ ap (λ x. put_at slot x (open_from 0 old.slots.slots)) is)
    ∙ ap (λ (hs : List ClosedSlot). record (books_of old) { opens = put_at slot o (open_from 0 old.slots.slots); held = hs; rooms = rooms_from new.slots.slots; slot_places = new.slots.capacity }) r.held
    ∙ ap (λ rs. record (books_of old) { opens = put_at slot o (open_from 0 old.slots.slots); rooms = rs; slot_places = new.slots.capacity }) r.rooms
    ∙ ap (λ n. record (books_of old) { opens = put_at slot o (open_from 0 old.slots.slots); slot_places = n }) r.same_places

-- A PART OF IT HAS ENDED

-- and others have not
pub ends_more : (b new : TableView) (slot : ℕ) (o' : Opened) → (o'.unfinished == 0) ≡ false → new ≡ record b { opens = put_at slot o' b.opens } → new ≡ ended_books slot o' b
ends_more b new slot o' more is = is ∙ sym (ap (λ x. record b { opens = put_at slot o' b.opens; ended = if x then b.ended ++ slot ∷ [] else b.ended }) more)

-- and it was the last
pub ends_last : (b mid : TableView) (slot : ℕ) (o' : Opened) (ended : List ℕ) (places : ℕ) → (o'.unfinished == 0) ≡ true → mid ≡ record b { opens = put_at slot o' b.opens }
    → ended ≡ mid.ended ++ slot ∷ [] → places ≡ mid.ended_places → record mid { ended = ended; ended_places = places } ≡ ended_books slot o' b
ends_last b mid slot o' ended places last is more same =
    ap (λ e. record mid { ended = e; ended_places = places }) more
    ∙ ap (λ n. record mid { ended = mid.ended ++ slot ∷ []; ended_places = n }) same
    ∙ ap (λ (x : TableView). record x { ended = x.ended ++ slot ∷ [] }) is
    ∙ sym (ap (λ x. record b { opens = put_at slot o' b.opens; ended = if x then b.ended ++ slot ∷ [] else b.ended }) last)

-- A PART OF IT GOES BELOW, in a packet of the next number

module _ (old mid : Table) (slot : ℕ) (counted : mid ≡ record old { next_packet = old.next_packet + 1 }) where
  open_counted : (o : Opened) → open_at slot (books_of old).opens ≡ Some o → open_at slot (books_of mid).opens ≡ Some o
  open_counted o is = subst (λ (x : Table). open_at slot (books_of x).opens ≡ Some o) (sym counted) is

  -- it stands in its slot still
  pub stands_counted : (o : Opened) → open_at slot (books_of old).opens ≡ Some o → (t : Transfer) × (get mid.slots slot ≡ Some (Open t))
  stands_counted o is = stands_there mid slot o (open_counted o is)

  pub same_counted : (t : Transfer) (o : Opened) → get mid.slots slot ≡ Some (Open t) → open_at slot (books_of old).opens ≡ Some o → opened_of t ≡ o
  same_counted t o there is = stands_as mid slot t o there (open_counted o is)

  pub sizes_counted : (out : Table) → TakesOut mid slot out → out.sizes ≡ old.sizes
  sizes_counted out taken = ap (λ (x : Table). x.sizes) taken.after ∙ ap (λ (x : Table). x.sizes) counted

  -- as the books have it
  pub books_counted : (out new : Table) (t u : Transfer) → get mid.slots slot ≡ Some (Open t) → TakesOut mid slot out → PutsBack out slot u new
      → books_of new ≡ record (books_of old) { opens = put_at slot (opened_of u) (books_of old).opens; next_packet = old.next_packet + 1 }
  books_counted out new t u was taken back =
      books_replaced mid new slot u (opened_of u) refl (replaces mid out new slot t u was taken back)
      ∙ ap (λ (x : Table). record (books_of x) { opens = put_at slot (opened_of u) (books_of x).opens }) counted
