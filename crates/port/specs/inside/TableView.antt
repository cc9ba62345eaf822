-- What the port has in its queues.
use Rattle.std.specs.Global.{Box}
use Rattle.std.specs.Prelude.{ℕ, ◌+◌, Bool, List, map, Option, vec_capacity}
use Rattle.std.specs.VecDeque.{deque_capacity}
use Rattle.irp.specs.declared.CancelRoutine.{CancelRoutine}
use Rattle.irp.specs.declared.StackLocation.{StackLocation}
use Rattle.irp.specs.declared.Irp.{Irp}
use Rattle.irp.specs.Climb.{above as locations_above}
use Rattle.irp.specs.Packet.{cancel_routine_of}
use Rattle.machine.specs.declared.Request.{Request}
use Rattle.slab.specs.Slab.{slab_len}
use Rattle.port.specs.declared.queues.Sizes.{Sizes}
use Rattle.port.specs.declared.queues.Waiting.{Waiting}
use Rattle.port.specs.declared.queues.PortPacket.{PortPacket}
use Rattle.port.specs.declared.queues.Ended.{Ended}
use Rattle.port.specs.declared.queues.Queues.{Queues}

-- a packet without its payload
pub record PacketEntry : Type 0 where
  pub number : ℕ
  pub above : List StackLocation
  pub cancelled : Bool
  -- its cancel routine, if it has one
  pub cancel_routine : Option CancelRoutine
  pub request : Request
  -- where it stood in the queue
  pub spot : ℕ

-- the entry of a packet, by its request and its spot
abbrev pub entry : Irp → Request → ℕ → PacketEntry
entry irp request spot = record {
  number = irp.number;
  above = locations_above irp;
  cancelled = irp.cancelled;
  cancel_routine = cancel_routine_of irp;
  request = request;
  spot = spot;
}

-- the entry of a packet that waits, or is at the adapter
abbrev pub entry_of : PortPacket → PacketEntry
entry_of held = entry held.irp.value held.request held.spot

-- the entry of a packet that ended
abbrev pub ended_entry : Ended → PacketEntry
ended_entry ended = entry ended.irp.value ended.request ended.spot

-- the packet with its request and its spot
abbrev pub held_with : Box Irp → Request → ℕ → PortPacket
held_with irp request spot = record { irp = irp; request = request; spot = spot }

-- the packet of an entry of the queue
abbrev pub held_at : ℕ × Waiting → PortPacket
held_at e = held_with e.1.irp e.1.request e.0

-- how many items each queue and table has room for before it has to grow
pub record Capacity : Type 0 where
  pub started : ℕ
  pub waiting : ℕ
  pub done : ℕ
  pub rooms : ℕ

-- all of that
abbrev pub in_all : Capacity → ℕ
in_all c = c.started + c.waiting + c.done + c.rooms

-- the queues, each as the list of its packets
pub record TableView : Type 0 where
  pub sizes : Sizes
  -- the packets that wait, the one that waited longest first
  pub waiting : List PortPacket
  -- by tags: the packets at the adapter; what stands at a free tag means nothing
  pub started : List (Option PortPacket)
  -- the packets that ended
  pub done : List Ended
  pub last_request : ℕ
  pub next_piece : ℕ
  pub submitted : ℕ
  pub removing : Bool
  -- how many packets the queues have places for: those that are in, and those that rooms are out for
  pub places : ℕ
  -- by spots: the request that a spot is reserved for, and Some None where a packet has the spot
  pub rooms : List (Option (Option Request))
  pub capacity : Capacity

-- what the queues show
abbrev pub books_of : Queues → TableView
books_of q = record {
  sizes = q.sizes;
  waiting = map held_at q.waiting.entries;
  started = q.started.items;
  done = q.done.list.items;
  last_request = q.last_request;
  next_piece = q.next_piece;
  submitted = q.submitted;
  removing = q.removing;
  places = slab_len q.rooms;
  rooms = q.rooms.slots;
  capacity = record {
    started = vec_capacity q.started;
    waiting = q.waiting.places;
    done = deque_capacity q.done.list;
    rooms = q.rooms.capacity;
  };
}

-- how often an entry of the queue was visited, and the packets that ended were walked
pub record Visited : Type 0 where
  pub queue : ℕ
  pub walks : ℕ

abbrev pub visits_of : Queues → Visited
visits_of q = record { queue = q.waiting.visits; walks = q.done.walks.count }

-- where a packet stood
abbrev pub spot_in : PacketEntry → ℕ
spot_in e = e.spot
