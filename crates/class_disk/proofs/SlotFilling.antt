-- A slot is filled, opened or given up, as the books have it.
use Rattle.std.proofs.Common.{◌≡◌, ◌≢◌, ◌≤◌, ◌+◌, ℕ, Bool, true, List, ◌∷◌, Option, Some, None, refl, sym, ◌∙◌, ap, subst, arith, get_or, length}
use Rattle.class_disk.proofs.Common.{IsPermutation, Slab, Updates, get, slab_len, Irp, Places, Slot, Transfer, Table, Opened, opened_of, held_as, open_from, held_from, rooms_from, room_of, books_of, IsVacantFor, HasPlaceForMore, new_opened, AddsSlot, RemovesSlot, OpensAt, SetsRoom, is_whole}
use Rattle.device.specs.View.{Reserved as DeviceRoom, whole_for, IsReady, IsReserved, request_at}
use Rattle.class_disk.specs.declared.requests.Slot.TheVariants.{Reserved, Open}
use Rattle.class_disk.proofs.Slots.{room_in}
use Rattle.class_disk.proofs.SlotChanges.{fills_reserved, opens_there, changes_room, count_is}

-- the table with these slots
abbrev pub with_slots : Table → Slab Slot → Table
with_slots table slots = record table { slots = slots }

-- what a slot that was filled or emptied leaves of the rest
same_opens : (old : Table) (slots : Slab Slot) → slots.capacity ≡ old.slots.capacity → open_from 0 slots.slots ≡ open_from 0 old.slots.slots
    → books_of (with_slots old slots) ≡ record (books_of old) { held = held_from 0 slots.slots; rooms = rooms_from slots.slots }
same_opens old slots room same =
    ap (λ (es : List (ℕ × Opened)). record (books_of old) { opens = es; held = held_from 0 slots.slots; rooms = rooms_from slots.slots; slot_places = slots.capacity }) same
    ∙ ap (λ (n : ℕ). record (books_of old) { held = held_from 0 slots.slots; rooms = rooms_from slots.slots; slot_places = n }) room

-- A SLOT IS FILLED

module _ (old : Table) (slots : Slab Slot) (slot key : ℕ) (places : Places) (vacant : IsVacantFor old slot) (key_is : key ≡ old.slots.vacant_key) (was : get old.slots key ≡ None) (room : slots.capacity ≡ old.slots.capacity) where
  same_key : key ≡ slot
  same_key = key_is ∙ vacant.is_next

  was_there : get old.slots slot ≡ None
  was_there = subst (λ k. get old.slots k ≡ None) same_key was

  pub adds_reserved : Updates old.slots slots key (Some (Reserved places)) → AddsSlot (books_of old) (held_as slot places) (books_of (with_slots old slots))
  adds_reserved updates =
      let u : Updates old.slots slots slot (Some (Reserved places)) = subst (λ k. Updates old.slots slots k (Some (Reserved places))) same_key updates in
      let f = fills_reserved slot places old.slots.slots slots.slots was_there u.changed u.others in
      record {
        more = f.more;
        room = changes_room slot old.slots.slots slots.slots None (Some (Reserved places)) was_there u.changed u.others;
        after = same_opens old slots room f.opens;
      }

-- A SLOT IS GIVEN UP

pub removes_reserved : (old : Table) (slots : Slab Slot) (slot : ℕ) (places : Places) → slots.capacity ≡ old.slots.capacity → get old.slots slot ≡ Some (Reserved places) → Updates old.slots slots slot None
    → RemovesSlot (books_of old) slot places (books_of (with_slots old slots))
removes_reserved old slots slot places room was u =
    let f = fills_reserved slot places slots.slots old.slots.slots u.changed was (λ i away. sym (u.others i away)) in
    record {
      held = held_as slot places;
      slot_is = refl;
      request = refl;
      parts = refl;
      fewer = f.more;
      room = changes_room slot old.slots.slots slots.slots (Some (Reserved places)) None was u.changed u.others;
      after = same_opens old slots room (sym f.opens);
    }

-- what stands where something is reserved
pub reserved_there : (table : Table) (slot : ℕ) → IsReserved (books_of table).rooms slot
    → (p : Places) × (get table.slots slot ≡ Some (Reserved p))
reserved_there table slot (reserved, is) = by (get table.slots slot) refl (sym (room_in table.slots.slots slot) ∙ is)
  where
    by : (x : Option Slot) → get table.slots slot ≡ x → room_of (get table.slots slot) ≡ Some reserved
        → (p : Places) × (get table.slots slot ≡ Some (Reserved p))
    by None e h = absurd (let n = ap room_of e in cc (n, h))
    by (Some (Reserved p)) e h = (p, e)
    by (Some (Open t)) e h = absurd (let n = ap room_of e in cc (n, h))

abbrev is_whole_at : Option DeviceRoom → Bool
is_whole_at None = true
is_whole_at (Some room) = room.whole

-- and where a packet may come
pub ready_there : (table : Table) (slot : ℕ) → IsReady (books_of table).rooms slot → (p : Places) × (get table.slots slot ≡ Some (Reserved p))
ready_there table slot is = reserved_there table slot (whole_for (request_at (books_of table).rooms slot), is)

-- A PACKET COMES

-- the table with its packet
abbrev pub with_packet : Table → Slab Slot → ℕ → Table
with_packet table slots number = record table { slots = slots; last_request = number; submitted = table.submitted + 1 }

pub opens_at : (old : Table) (mid new : Slab Slot) (slot key number : ℕ) (places : Places) (t : Transfer) (irp : Irp) → new.capacity ≡ old.slots.capacity → IsReady (books_of old).rooms slot → get old.slots slot ≡ Some (Reserved places) → Updates old.slots mid slot None
    → mid.vacant_key ≡ slot → key ≡ mid.vacant_key → Updates mid new key (Some (Open t)) → number ≡ irp.number → opened_of t ≡ new_opened irp places.request places.parts.items
    → OpensAt (books_of old) slot irp (books_of (with_packet old new number))
opens_at old mid new slot key number places t irp capacity ready was out vacant key_is back number_is is =
    let u : Updates mid new slot (Some (Open t)) = subst (λ k. Updates mid new k (Some (Open t))) (key_is ∙ vacant) back in
    let others : (i : ℕ) → i ≢ slot → get_or new.slots i None ≡ get_or old.slots.slots i None = λ i away. u.others i away ∙ out.others i away in
    let o = opens_there slot places t old.slots.slots new.slots was u.changed others in
    let whole : is_whole places.parts.items ≡ true = ap is_whole_at (sym (ap room_of was) ∙ sym (room_in old.slots.slots slot) ∙ ready) in
    record {
      held = held_as slot places;
      slot_is = refl;
      whole = whole;
      fewer = o.fewer;
      room = subst (λ w. SetsRoom (rooms_from old.slots.slots) slot (Some (record { request = places.request; whole = w })) None (rooms_from new.slots)) whole
          (changes_room slot old.slots.slots new.slots (Some (Reserved places)) (Some (Open t)) was u.changed others);
      opens = subst (λ x. IsPermutation (open_from 0 new.slots) ((slot, x) ∷ open_from 0 old.slots.slots)) is o.opens;
      is_open = o.is_open ∙ ap Some is;
      after = ap (λ n. record (books_of old) { held = held_from 0 new.slots; rooms = rooms_from new.slots; opens = open_from 0 new.slots; last_request = n; submitted = old.submitted + 1; slot_places = new.capacity }) number_is
          ∙ ap (λ n. record (books_of old) { held = held_from 0 new.slots; rooms = rooms_from new.slots; opens = open_from 0 new.slots; last_request = irp.number; submitted = old.submitted + 1; slot_places = n }) capacity;
    }

-- no more end than there are slots
pub few_ended : (table : Table) → length (books_of table).ended ≤ length (books_of table).opens → length table.ended.items ≤ slab_len table.slots
few_ended table few = let n = count_is 0 table.slots.slots in omega (arith, n, few)

pub place_there : (table : Table) → HasPlaceForMore table → length (books_of table).held + length (books_of table).opens + 1 ≤ (books_of table).ended_places
place_there table h = let n = count_is 0 table.slots.slots in let p = h.ended in omega (arith, n, p)

-- other owners leave the slots as they are
pub still_vacant : (old new : Table) (slot : ℕ) → new ≡ record old { owners = new.owners } → IsVacantFor old slot → IsVacantFor new slot
still_vacant old new slot same h = subst (λ (x : Table). IsVacantFor x slot) (sym same) (record { is_next = h.is_next; room = h.room })
