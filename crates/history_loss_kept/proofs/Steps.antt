-- Schedules, sight by sight.
use Rattle.std.proofs.Common.{◌≡◌, inl, inr, ℕ, List, [], ◌∷◌, refl, sym, ap, subst}
use Rattle.loss.specs.Held.{IsOneOf}
use Rattle.register_loss.specs.declared.Turn.{Turn}
use Rattle.register_loss.specs.declared.Sight.{Sight}
use Rattle.register_loss.specs.Schedules.{Event, Seen, Unseen, HasSchedule, Leads, Register, Turns, behind, opening, seen_of}

-- turns lead from one register to another
abbrev pub Turned : List Turn → Register → Register → Type 0
Turned [] r r' = r' ≡ r
Turned (turn ∷ turns) r r' = (mid : Register) × Turns turn r mid × Turned turns mid r'

-- the sights are possible from here, each behind some turns
abbrev pub Shows : List Sight → Register → Type 0
Shows [] r = Unit {0}
Shows (sight ∷ sights) r = (turns : List Turn) × (mid : Register) × (next : Register) × Turned turns r mid × IsOneOf next (behind sight mid) × Shows sights next

turned_first : (turn : Turn) (sights : List Sight) (r mid : Register) → Turns turn r mid → Shows sights mid → Shows sights r
turned_first turn [] r mid t h = tt
turned_first turn (sight ∷ sights) r mid t h = (turn ∷ h.0, h.1, h.2, (mid, t, h.3), h.4, h.5)

pub turned_then : (turns : List Turn) (sights : List Sight) (r mid : Register) → Turned turns r mid → Shows sights mid → Shows sights r
turned_then [] sights r mid t h = subst (Shows sights) t h
turned_then (turn ∷ turns) sights r mid t h = turned_first turn sights r t.0 t.1 (turned_then turns sights t.0 mid t.2 h)

-- nothing but this sight
pub shows_now : (sight : Sight) (sights : List Sight) (r next : Register) → IsOneOf next (behind sight r) → Shows sights next → Shows (sight ∷ sights) r
shows_now sight sights r next one rest = ([], r, next, refl, one, rest)

shows_from : (events : List Event) (r r' : Register) → Leads r events r' → Shows (seen_of events) r
shows_from [] r r' h = tt
shows_from (Seen sight ∷ events) r r' h = shows_now sight (seen_of events) r h.0 h.1 (shows_from events h.0 r' h.2)
shows_from (Unseen turn ∷ events) r r' h = turned_first turn (seen_of events) r h.0 h.1 (shows_from events h.0 r' h.2)

record Led (sights : List Sight) (r : Register) : Type 0 where
  events : List Event
  register : Register
  in_turn : Leads r events register
  seen : seen_of events ≡ sights

unseen_all : (turns : List Turn) (sights : List Sight) (r mid : Register) → Turned turns r mid → Led sights mid → Led sights r
unseen_all [] sights r mid t l = subst (Led sights) t l
unseen_all (turn ∷ turns) sights r mid t l =
    let rest : Led sights t.0 = unseen_all turns sights t.0 mid t.2 l in
    record { events = Unseen turn ∷ rest.events; register = rest.register; in_turn = (t.0, t.1, rest.in_turn); seen = rest.seen }

led : (sights : List Sight) (r : Register) → Shows sights r → Led sights r
led [] r h = record { events = []; register = r; in_turn = refl; seen = refl }
led (sight ∷ sights) r h =
    let rest : Led sights h.2 = led sights h.2 h.5 in
    unseen_all h.0 (sight ∷ sights) r h.1 h.3 (record { events = Seen sight ∷ rest.events; register = rest.register; in_turn = (h.2, h.4, rest.in_turn); seen = ap (λ xs. sight ∷ xs) rest.seen })

pub shows : (start : ℕ) (sights : List Sight) → HasSchedule start sights → Shows sights (opening start)
shows start sights h = subst (λ xs. Shows xs (opening start)) h.seen (shows_from h.events (opening start) h.register h.in_turn)

pub scheduled : (start : ℕ) (sights : List Sight) → Shows sights (opening start) → HasSchedule start sights
scheduled start sights h = let l : Led sights (opening start) = led sights (opening start) h in record { events = l.events; register = l.register; in_turn = l.in_turn; seen = l.seen }

-- RELATIONS

-- each register of the one list has one of the other, in turn
abbrev pub Alike : (Register → Register → Type 0) → List Register → List Register → Type 0
Alike R [] [] = Unit {0}
Alike R [] (s ∷ ss) = ⊥
Alike R (r ∷ rs) [] = ⊥
Alike R (r ∷ rs) (s ∷ ss) = R r s × Alike R rs ss

pub alike_left : (R : Register → Register → Type 0) (r : Register) (rs ss : List Register) → Alike R rs ss → IsOneOf r rs → (s : Register) × IsOneOf s ss × R r s
alike_left R r [] ss a h = absurd h
alike_left R r (x ∷ rs) [] a h = absurd a
alike_left R r (x ∷ rs) (s ∷ ss) a (inl e) = (s, inl refl, subst (λ y. R y s) (sym e) a.0)
alike_left R r (x ∷ rs) (s ∷ ss) a (inr h) = let found : (s : Register) × IsOneOf s ss × R r s = alike_left R r rs ss a.1 h in (found.0, inr found.1, found.2)

pub alike_right : (R : Register → Register → Type 0) (s : Register) (rs ss : List Register) → Alike R rs ss → IsOneOf s ss → (r : Register) × IsOneOf r rs × R r s
alike_right R s rs [] a h = absurd h
alike_right R s [] (x ∷ ss) a h = absurd a
alike_right R s (r ∷ rs) (x ∷ ss) a (inl e) = (r, inl refl, subst (λ y. R r y) (sym e) a.0)
alike_right R s (r ∷ rs) (x ∷ ss) a (inr h) = let found : (r : Register) × IsOneOf r rs × R r s = alike_right R s rs ss a.1 h in (found.0, inr found.1, found.2)
