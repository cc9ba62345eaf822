-- A schedule of a sector in which nothing fails but writes at the sector itself.
use Rattle.std.proofs.Common.{◌≡◌, ℕ, List, [], ◌∷◌}
use Rattle.machine.specs.declared.ClientRequest.{ClientRequest}
use Rattle.machine.specs.Rules.{Rules}
use Rattle.loss.specs.Held.{Held}
use Rattle.loss.specs.Sessions.{Line}
use Rattle.history_loss.specs.Schedules.{Event, Seen, Effect, Fails, IsAt, Takes, lines_of, so_far}
use Rattle.history_loss_sights.proofs.Standing.{Called}

-- what fails is at the sector
abbrev pub Owns : Rules → ℕ → List Event → Event → Type 0
Owns rules i past (Seen line) = Unit {0}
Owns rules i past (Effect n sector) = Unit {0}
Owns rules i past (Fails n place) = (q : ClientRequest) × Called past n q × IsAt rules i q place

abbrev pub Follows : Rules → ℕ → List Event → Held → List Event → Type 0
Follows rules i past h [] = Unit {0}
Follows rules i past h (event ∷ events) = (h' : Held) × Takes rules i past h event h' × Owns rules i past event × Follows rules i (so_far event past) h' events

-- events from here on show these lines
pub record GoesOn (rules : Rules) (i : ℕ) (past : List Event) (h : Held) (lines : List Line) : Type 0 where
  pub events : List Event
  pub follow : Follows rules i past h events
  pub shows : lines_of events ≡ lines

-- one event that shows nothing
pub goes_effect : (rules : Rules) (i : ℕ) (past : List Event) (h h' : Held) (lines : List Line) (n : ℕ) (sector : List ℕ) → Takes rules i past h (Effect n sector) h'
    → GoesOn rules i (Effect n sector ∷ past) h' lines → GoesOn rules i past h lines
goes_effect rules i past h h' lines n sector takes rest = record { events = Effect n sector ∷ rest.events; follow = (h', takes, tt, rest.follow); shows = rest.shows }

pub goes_fault : (rules : Rules) (i : ℕ) (past : List Event) (h h' : Held) (lines : List Line) (n place : ℕ) → Takes rules i past h (Fails n place) h' → Owns rules i past (Fails n place)
    → GoesOn rules i (Fails n place ∷ past) h' lines → GoesOn rules i past h lines
goes_fault rules i past h h' lines n place takes owns rest = record { events = Fails n place ∷ rest.events; follow = (h', takes, owns, rest.follow); shows = rest.shows }
