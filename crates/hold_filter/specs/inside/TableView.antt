-- What the filter has in its table.
use Rattle.std.specs.Prelude.{ℕ, ◌+◌, Bool, List, ◌++◌, map, Some}
use Rattle.irp.specs.declared.CancelRoutine.{CancelRoutine}
use Rattle.irp.specs.declared.Driver.TheVariants.{Filter as IsFilter}
use Rattle.irp.specs.declared.Irp.{Irp}
use Rattle.irp.specs.Packet.{cancel_routine_of, with_cancel_routine}
use Rattle.std.specs.Global.{Box}
use Rattle.device.specs.declared.Room.{Room}
use Rattle.hold_filter.specs.declared.table.Held.{Held}
use Rattle.hold_filter.specs.declared.table.Table.{Table}

-- the limits of the queues: each has places for the spots below its limit
pub record Limits : Type 0 where
  pub held : ℕ
  pub ended : ℕ

-- the places of both
abbrev pub in_all : Limits → ℕ
in_all limits = limits.held + limits.ended

-- the table, each queue as the list of its entries: the spot there and the packet
pub record TableView : Type 0 where
  pub window : ℕ
  -- the packets that are held, the one that was held longest first
  pub held : List (ℕ × Held)
  -- the packets that were cancelled while they were held
  pub ended : List (ℕ × Held)
  pub places : Limits
  -- how many packets are below
  pub below : ℕ
  pub last_number : ℕ
  pub submitted : ℕ
  pub paused : Bool
  pub removing : Bool

-- the cancel routine that a packet has while the filter holds it
abbrev pub own_routine : CancelRoutine
own_routine = record { driver = IsFilter }

-- what the table shows
abbrev pub books_of : Table → TableView
books_of t = record {
  window = t.window;
  held = t.held.entries;
  ended = t.ended.entries;
  places = record { held = t.held.places; ended = t.ended.places };
  below = t.below;
  last_number = t.last_number;
  submitted = t.submitted;
  paused = t.paused;
  removing = t.removing;
}

-- the packet of an entry
abbrev pub packet_in : ℕ × Held → Held
packet_in entry = entry.1

-- the packets in the filter: those that are held, and those that were cancelled while they were held
abbrev pub here : TableView → List Held
here b = map packet_in b.held ++ map packet_in b.ended

-- a packet as the filter holds it
abbrev pub held_with : Box Irp → Room → Held
held_with irp room = record {
  irp = record irp { value = with_cancel_routine (Some own_routine) irp.value };
  routine = cancel_routine_of irp.value;
  room = room;
}
