-- What the class driver has in its table.
use Rattle.std.specs.Prelude.{◌≡◌, ◌<◌, ◌≤◌, ℕ, ◌+◌, ◌-◌, ◌==◌, Bool, true, false, List, [], ◌∷◌, map}
use Rattle.std.specs.Prelude.{Option, Some, None, vec_capacity, if◌then◌else◌}
use Rattle.std.specs.VecDeque.{deque_capacity}
use Rattle.slab.specs.Slab.{HasRoomFor, Updates, get, slab_len}
use Rattle.irp.specs.declared.Irp.{Irp}
use Rattle.irp.specs.declared.Payload.{Payload}
use Rattle.irp.specs.declared.Payload.TheVariants.{Buffer}
use Rattle.machine.specs.declared.Request.{Request}
use Rattle.device.specs.View.{Reserved as DeviceRoom}
use Rattle.class_disk.specs.declared.Sizes.{Sizes}
use Rattle.class_disk.specs.declared.parts.Part.{Part}
use Rattle.class_disk.specs.declared.parts.PartId.{PartId}
use Rattle.class_disk.specs.declared.requests.Places.{Places}
use Rattle.class_disk.specs.declared.requests.Slot.{Slot}
use Rattle.class_disk.specs.declared.requests.Slot.TheVariants.{Reserved, Open}
use Rattle.class_disk.specs.declared.requests.Transfer.{Transfer}
use Rattle.class_disk.specs.declared.table.Table.{Table}

-- an open request, with its parts in the order of their places
pub record Opened : Type 0 where
  pub irp : Irp
  pub request : Request
  pub parts : List Part
  -- how often parts were sent again, and how many have not ended
  pub restarts : ℕ
  pub unfinished : ℕ
  -- whether its buffer went below with the only part
  pub lent : Bool

-- a slot that has no packet: a request with its parts, each of which can be sent, or with none any more
pub record ClosedSlot : Type 0 where
  pub slot : ℕ
  pub request : Request
  pub parts : List Part

-- the table, as lists
pub record TableView : Type 0 where
  pub sizes : Sizes
  -- the open requests with their slots, by rising slots
  pub opens : List (ℕ × Opened)
  -- the slots with no packet, rising
  pub held : List ClosedSlot
  -- what is reserved, by slots
  pub rooms : List (Option DeviceRoom)
  -- the part that the room at a spot below is for
  pub owners : List PartId
  -- the slots of the requests that have ended, the first to end in front
  pub ended : List ℕ
  -- how many slots the list of the ended has room for
  pub ended_places : ℕ
  -- how many slots there is room for, and for the owners of how many spots below
  pub slot_places : ℕ
  pub owner_places : ℕ
  pub last_request : ℕ
  -- the number of the next packet: one more than were sent so far
  pub next_packet : ℕ
  pub submitted : ℕ
  pub removing : Bool

-- what a packet came with, whether or not its buffer is lent
abbrev pub payload_of : (lent : Bool) (noted : List ℕ) → Payload → Payload
payload_of true noted payload = Buffer noted
payload_of false noted payload = payload

-- a request, with its packet as it came
abbrev pub opened_of : Transfer → Opened
opened_of t = record {
  irp = record t.irp.value { payload = payload_of t.lent t.noted.bytes t.irp.value.payload };
  request = t.request;
  parts = t.parts.items;
  restarts = t.restarts;
  unfinished = t.unfinished;
  lent = t.lent;
}

abbrev pub held_as : ℕ → Places → ClosedSlot
held_as slot places = record { slot = slot; request = places.request; parts = places.parts.items }

-- whether all is there that a request needs: its parts are, until its packet has gone up
abbrev pub is_whole : List Part → Bool
is_whole [] = false
is_whole (part ∷ parts) = true

-- the open requests of these slots, of which the first has this number
abbrev pub open_from : ℕ → List (Option Slot) → List (ℕ × Opened)
open_from slot [] = []
open_from slot (None ∷ rest) = open_from (slot + 1) rest
open_from slot (Some (Reserved places) ∷ rest) = open_from (slot + 1) rest
open_from slot (Some (Open t) ∷ rest) = (slot, opened_of t) ∷ open_from (slot + 1) rest

-- the slots among these that have no packet
abbrev pub held_from : ℕ → List (Option Slot) → List ClosedSlot
held_from slot [] = []
held_from slot (None ∷ rest) = held_from (slot + 1) rest
held_from slot (Some (Reserved places) ∷ rest) = held_as slot places ∷ held_from (slot + 1) rest
held_from slot (Some (Open t) ∷ rest) = held_from (slot + 1) rest

-- what a room is reserved for
abbrev pub reserved_for : ClosedSlot → DeviceRoom
reserved_for held = record { request = held.request; whole = is_whole held.parts }

-- what is reserved in a slot
abbrev pub room_of : Option Slot → Option DeviceRoom
room_of None = None
room_of (Some (Reserved places)) = Some (record { request = places.request; whole = is_whole places.parts.items })
room_of (Some (Open t)) = None

-- what is reserved in a slot, in front of the slots behind; a last slot with nothing reserved is left out
abbrev pub before : Option DeviceRoom → List (Option DeviceRoom) → List (Option DeviceRoom)
before None [] = []
before None (room ∷ rooms) = None ∷ room ∷ rooms
before (Some reserved) rooms = Some reserved ∷ rooms

-- what is reserved, by slots, up to the last
abbrev pub rooms_from : List (Option Slot) → List (Option DeviceRoom)
rooms_from [] = []
rooms_from (slot ∷ rest) = before (room_of slot) (rooms_from rest)

abbrev pub books_of : Table → TableView
books_of table = record {
  sizes = table.sizes;
  opens = open_from 0 table.slots.slots;
  held = held_from 0 table.slots.slots;
  rooms = rooms_from table.slots.slots;
  owners = table.owners.items;
  ended = table.ended.items;
  ended_places = deque_capacity table.ended;
  slot_places = table.slots.capacity;
  owner_places = vec_capacity table.owners;
  last_request = table.last_request;
  next_packet = table.next_packet;
  submitted = table.submitted;
  removing = table.removing;
}

-- for how many items the table has room before it has to grow
abbrev pub room_in_all : TableView → ℕ
room_in_all b = b.slot_places + b.owner_places + b.ended_places

-- one more slot needs no memory
pub record HasRoomForMore (table : Table) : Type 0 where
  pub slots : slab_len table.slots < table.slots.capacity
  pub ended : slab_len table.slots < deque_capacity table.ended

-- there is a slot for one more, and a place for it among the ended
pub record HasPlaceForMore (table : Table) : Type 0 where
  pub slots : HasRoomFor table.slots 1
  pub ended : slab_len table.slots + 1 ≤ deque_capacity table.ended

-- the next slot that is filled is this one, and it is there
pub record IsVacantFor (table : Table) (slot : ℕ) : Type 0 where
  pub is_next : table.slots.vacant_key ≡ slot
  pub room : HasRoomFor table.slots 1

-- the open request of a slot is taken out of it, for a while
pub record TakesOut (old : Table) (slot : ℕ) (new : Table) : Type 0 where
  pub updates : Updates old.slots new.slots slot None
  pub vacant : IsVacantFor new slot
  pub same_places : new.slots.capacity ≡ old.slots.capacity
  pub after : new ≡ record old { slots = new.slots }

-- an open request is put back into its slot
pub record PutsBack (old : Table) (slot : ℕ) (transfer : Transfer) (new : Table) : Type 0 where
  pub was_vacant : get old.slots slot ≡ None
  pub updates : Updates old.slots new.slots slot (Some (Open transfer))
  pub same_places : new.slots.capacity ≡ old.slots.capacity
  pub after : new ≡ record old { slots = new.slots }

-- an open request without its slot
abbrev pub opened : ℕ × Opened → Opened
opened e = e.1

-- all open requests
abbrev pub all_open : TableView → List Opened
all_open b = map opened b.opens

-- the slots of the requests that have ended
abbrev pub ended_in : List (ℕ × Opened) → List ℕ
ended_in [] = []
ended_in (e ∷ rest) = if e.1.unfinished == 0 then e.0 ∷ ended_in rest else ended_in rest

-- how often parts of these requests may still be sent again
abbrev pub restarts_left : List (ℕ × Opened) → ℕ
restarts_left [] = 0
restarts_left (e ∷ rest) = 16 - e.1.restarts + restarts_left rest

-- the open request in a slot
abbrev pub open_at : ℕ → List (ℕ × Opened) → Option Opened
open_at slot [] = None
open_at slot (e ∷ rest) = if e.0 == slot then Some e.1 else open_at slot rest

-- a slot's open request replaced by another
abbrev pub put_at : ℕ → Opened → List (ℕ × Opened) → List (ℕ × Opened)
put_at slot o [] = []
put_at slot o (e ∷ rest) = if e.0 == slot then (slot, o) ∷ rest else e ∷ put_at slot o rest
