-- The rooms of the layer below, all of which are in the class driver's hands.
use Rattle.std.specs.Prelude.{List, eqb, All, IsPermutation, map}
use Rattle.std.specs.List.{IsDistinct}
use Rattle.device.specs.View.{DeviceView, IsOrderly}
use Rattle.device.specs.inside.Out.{Ticket, IsGood, ticket_spot, tickets_of}

-- the layer is in order, and these are just its rooms, each once
pub record AllOut (v : DeviceView) (tickets : List Ticket) : Type 0 where
  pub orderly : IsOrderly v
  pub good : All (IsGood v) tickets
  pub apart : IsDistinct eqb (map ticket_spot tickets)
  pub all : IsPermutation (tickets_of v.rooms) tickets
