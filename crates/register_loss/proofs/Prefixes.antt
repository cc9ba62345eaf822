-- A schedule up to a moment.
use Rattle.std.proofs.Common.{◌≡◌, ℕ, zero, suc, List, [], ◌∷◌, refl, ap, subst, take}
use Rattle.register_loss.specs.Schedules.{Event, Seen, Unseen, HasSchedule, Leads, PrefixesAreScheduled, Register, opening, seen_of}

-- events up to so many sights
record Begun (r : Register) (events : List Event) (count : ℕ) : Type 0 where
  front : List Event
  register : Register
  in_turn : Leads r front register
  seen : seen_of front ≡ take count (seen_of events)

begun_first : (r : Register) (events : List Event) → Begun r events 0
begun_first r events = record { front = []; register = r; in_turn = refl; seen = refl }

begun : (r : Register) (events : List Event) (count : ℕ) (r' : Register) → Leads r events r' → Begun r events count
begun r [] zero r' h = begun_first r []
begun r [] (suc count) r' h = record { front = []; register = r; in_turn = refl; seen = refl }
begun r (Seen sight ∷ events) zero r' h = begun_first r (Seen sight ∷ events)
begun r (Seen sight ∷ events) (suc count) r' h =
    let rest : Begun h.0 events count = begun h.0 events count r' h.2 in
    record { front = Seen sight ∷ rest.front; register = rest.register; in_turn = (h.0, h.1, rest.in_turn); seen = ap (λ xs. sight ∷ xs) rest.seen }
begun r (Unseen turn ∷ events) zero r' h = begun_first r (Unseen turn ∷ events)
begun r (Unseen turn ∷ events) (suc count) r' h =
    let rest : Begun h.0 events (suc count) = begun h.0 events (suc count) r' h.2 in
    record { front = Unseen turn ∷ rest.front; register = rest.register; in_turn = (h.0, h.1, rest.in_turn); seen = rest.seen }

pub prefixes : PrefixesAreScheduled
prefixes start sights count h =
    let b : Begun (opening start) h.events count = begun (opening start) h.events count h.register h.in_turn in
    subst (λ xs. HasSchedule start (take count xs)) h.seen (record { events = b.front; register = b.register; in_turn = b.in_turn; seen = b.seen })
