-- The slot of the request that ended first.
use Rattle.std.proofs.Common.{◌≡◌, ℕ, zero, List, ◌∷◌, Option, Some, None, refl, sym, ◌∙◌, ap, subst, arith, Contains, IsSome}
use Rattle.class_disk.proofs.Common.{deque_capacity, Slab, Updates, get, Slot, Open, Transfer, Table, books_of, opened_of, open_from, rooms_from, open_at, TakesOut, TakesEnded}
use Rattle.class_disk.proofs.SlotChanges.{keeps_rooms, takes_off}
use Rattle.class_disk.proofs.Replacing.{stands_there}

some_of : {X : Type 0} (x : Option X) → IsSome x → (y : X) × (x ≡ Some y)
some_of None h = absurd (cc (h))
some_of (Some y) h = (y, refl)

first_there : (slot : ℕ) (rest : List ℕ) → Contains (slot ∷ rest) slot
first_there slot rest = (zero, omega arith, refl)

-- the first to end stands in its slot
pub first_open : (table : Table) (rest : List ℕ) (slot : ℕ) → table.ended.items ≡ slot ∷ rest
    → ((k : ℕ) → Contains table.ended.items k → IsSome (open_at k (books_of table).opens)) → (t : Transfer) × (get table.slots slot ≡ Some (Open t))
first_open table rest slot front are =
    let o = some_of (open_at slot (books_of table).opens) (are slot (subst (λ xs. Contains xs slot) (sym front) (first_there slot rest))) in
    stands_there table slot o.0 o.1

-- the request that ended first is taken out of its slot
pub takes_ended : (old mid new : Table) (slot : ℕ) (t : Transfer) → mid ≡ record old { ended = mid.ended } → old.ended.items ≡ slot ∷ mid.ended.items
    → deque_capacity mid.ended ≡ deque_capacity old.ended → get old.slots slot ≡ Some (Open t) → TakesOut mid slot new → TakesEnded (books_of old) slot (opened_of t) (books_of new)
takes_ended old mid new slot t first front places was out =
    let same_slots : mid.slots ≡ old.slots = ap (λ (x : Table). x.slots) first in
    let updates : Updates old.slots new.slots slot None = subst (λ s. Updates s new.slots slot None) same_slots out.updates in
    let f = takes_off slot t old.slots.slots new.slots.slots was updates.changed updates.others in
    let rooms : rooms_from new.slots.slots ≡ rooms_from old.slots.slots = keeps_rooms slot old.slots.slots new.slots.slots (Some (Open t)) None refl was updates.changed updates.others in
    let whole : new ≡ record old { ended = mid.ended; slots = new.slots } = out.after ∙ ap (λ (x : Table). record x { slots = new.slots }) first in
    subst (λ (x : Table). TakesEnded (books_of old) slot (opened_of t) (books_of x)) (sym whole) (record {
      front = front;
      is_open = f.is_open;
      opens = f.opens;
      after =
          ap (λ hs. record (books_of old) { opens = open_from 0 new.slots.slots; held = hs; rooms = rooms_from new.slots.slots; ended = mid.ended.items; ended_places = deque_capacity mid.ended; slot_places = new.slots.capacity }) f.held
          ∙ ap (λ rs. record (books_of old) { opens = open_from 0 new.slots.slots; rooms = rs; ended = mid.ended.items; ended_places = deque_capacity mid.ended; slot_places = new.slots.capacity }) rooms
          ∙ ap (λ n. record (books_of old) { opens = open_from 0 new.slots.slots; ended = mid.ended.items; ended_places = n; slot_places = new.slots.capacity }) places
          ∙ ap (λ n. record (books_of old) { opens = open_from 0 new.slots.slots; ended = mid.ended.items; slot_places = n }) (out.same_places ∙ ap (λ (s : Slab Slot). s.capacity) same_slots);
    })
