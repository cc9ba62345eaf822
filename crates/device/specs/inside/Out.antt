-- Rooms of a layer that are in the hands of its callers.
use Rattle.std.specs.Prelude.{◌≡◌, eqb, ℕ, suc, List, [], ◌∷◌, map, Option, Some, None, All}
use Rattle.std.specs.List.{IsDistinct}
use Rattle.device.specs.View.{DeviceView, Reserved, IsOrderly, room_at}

-- a room, with what its holder knows that it is reserved for
pub record Ticket : Type 0 where
  pub spot : ℕ
  pub reserved : Reserved

-- the spot of a ticket
abbrev pub ticket_spot : Ticket → ℕ
ticket_spot ticket = ticket.spot

-- what a ticket says is reserved is reserved
abbrev pub IsGood : DeviceView → Ticket → Type 0
IsGood v ticket = room_at v.rooms ticket.spot ≡ Some ticket.reserved

-- the layer is in order, and these are rooms of it, each once
pub record AreOut (v : DeviceView) (tickets : List Ticket) : Type 0 where
  pub orderly : IsOrderly v
  pub good : All (IsGood v) tickets
  pub apart : IsDistinct eqb (map ticket_spot tickets)

-- the rooms of these spots, the first of which has this number
abbrev pub tickets_from : ℕ → List (Option Reserved) → List Ticket
tickets_from n [] = []
tickets_from n (None ∷ rooms) = tickets_from (suc n) rooms
tickets_from n (Some reserved ∷ rooms) = record { spot = n; reserved = reserved } ∷ tickets_from (suc n) rooms

-- all rooms of a layer
abbrev pub tickets_of : List (Option Reserved) → List Ticket
tickets_of rooms = tickets_from 0 rooms
