-- What a layer shows of itself.
use Rattle.std.specs.Prelude.{◌≡◌, ◌<◌, ◌≤◌, ◌⊎◌, ℕ, ◌+◌, ◌-◌, ◌*◌, eqb, Bool, true, false, List, [], ◌∷◌, Option, Some, None, map, length, count_by, IsNone, IsTrue, IsFalse, All, Any, IsPermutation, slice_get, slice_index_or, if◌then◌else◌}
use Rattle.std.specs.List.{IsDistinct}
use Rattle.sector.specs.declared.Extent.{Extent}
use Rattle.sector.specs.Extents.{IsIn, sectors_in}
use Rattle.cdb.specs.declared.Cdb.{Cdb}
use Rattle.cdb.specs.Meaning.{IsPlain, Means}
use Rattle.srb.specs.declared.Srb.{Srb}
use Rattle.srb.specs.declared.SrbFunction.TheVariants.{ExecuteScsi}
use Rattle.srb.specs.declared.DeviceLabel.TheVariants.{Act}
use Rattle.srb.specs.Fate.{Fate, Fresh}
use Rattle.adapter.specs.View.{AdapterView, TagInUse, IsInOrder}
use Rattle.irp.specs.declared.CancelRoutine.{CancelRoutine}
use Rattle.irp.specs.declared.MajorFunction.{MajorFunction}
use Rattle.irp.specs.declared.MajorFunction.TheVariants.{InternalDeviceControl, FlushBuffers, Read as MajorRead, Write as MajorWrite}
use Rattle.irp.specs.declared.StackLocation.{StackLocation}
use Rattle.irp.specs.declared.Irp.{Irp}
use Rattle.irp.specs.Climb.{above as locations_above}
use Rattle.irp.specs.Packet.{HasOwn, cancel_routine_of}
use Rattle.irp.specs.declared.Payload.{Payload}
use Rattle.irp.specs.declared.Payload.TheVariants.{Buffer, Srb as Packed, Sent as AtAdapter}
use Rattle.srb.specs.declared.Kind.{Kind}
use Rattle.srb.specs.declared.Kind.TheVariants.{Read, Write, Flush}
use Rattle.machine.specs.declared.Request.{Request}
use Rattle.machine.specs.Rules.{Rules, home, is_transfer, sectors_of, as_client}
use Rattle.machine.specs.State.{OpenRequest, Piece, State}
use Rattle.machine.specs.Sending.{command_for, is_started}
use Rattle.machine.specs.Step.{Run, as_label}
use Rattle.machine.specs.Settled.{IsAllSent, IsFull, IsWithin, started_count}
use Rattle.machine.specs.Holding.{is_lower}
use Rattle.machine.specs.Numbers.{AreDistinct, HavePlaces, request_number}
use Rattle.machine.specs.Solo.{all_places}

-- a packet that the layer has: its number, the spot of its room, and the stack locations above the
-- layer's own, the topmost driver's first
pub record Packet : Type 0 where
  pub number : ℕ
  pub spot : ℕ
  pub above : List StackLocation
  -- its cancel routine, if it has one
  pub cancel_routine : Option CancelRoutine

-- the number of a packet
abbrev pub packet_number : Packet → ℕ
packet_number packet = packet.number

-- a packet as the layer that takes it in has it
abbrev pub packet_of : Irp → ℕ → Packet
packet_of irp spot = record {
  number = irp.number;
  spot = spot;
  above = locations_above irp;
  cancel_routine = cancel_routine_of irp;
}

-- no driver above asks for this packet
abbrev pub IsTopmost : Packet → Type 0
IsTopmost packet = packet.above ≡ []

-- what is reserved at a spot: the request that it is for, and whether all that the request needs is there; a packet
-- that has ended may leave its spot without what went out with its labels
pub record Reserved : Type 0 where
  pub request : Request
  pub whole : Bool

-- what a layer shows: its machine, its packets, its reserved spots and the adapter below
pub record DeviceView : Type 0 where
  pub rules : Rules
  pub state : State
  -- the packets that were submitted and not taken yet, in any order
  pub packets : List Packet
  -- what is reserved, by spots; the spot of a packet is not reserved
  pub rooms : List (Option Reserved)
  -- the requests submitted so far, and the most that may be
  pub submitted : ℕ
  pub most : ℕ
  -- how many items the tables of this layer and of those below have room for, all in all, before one has to grow
  pub places : ℕ
  -- the adapter below, with the labels that it recorded and that nobody took yet
  pub adapter : AdapterView

-- what is reserved at a spot, where something is
abbrev pub room_at : List (Option Reserved) → ℕ → Option Reserved
room_at rooms spot = slice_index_or rooms spot None

-- what stands for the request of a spot that is not reserved; nobody asks for it
abbrev pub no_request : Request
no_request = record { volume = 0; kind = Flush; extent = record { first = 0; count = 0 }; through = false }

-- the request that a spot is reserved for
abbrev pub request_of : Option Reserved → Request
request_of None = no_request
request_of (Some reserved) = reserved.request

-- the request for which a spot is reserved
abbrev pub request_at : List (Option Reserved) → ℕ → Request
request_at rooms spot = request_of (room_at rooms spot)

-- the spot is reserved for this request, with all that it needs
abbrev pub whole_for : Request → Reserved
whole_for request = record { request = request; whole = true }

-- the spot is reserved, with all that its request needs
abbrev pub IsReady : List (Option Reserved) → ℕ → Type 0
IsReady rooms spot = room_at rooms spot ≡ Some (whole_for (request_at rooms spot))

-- the spot is reserved
abbrev pub IsReserved : List (Option Reserved) → ℕ → Type 0
IsReserved rooms spot = (reserved : Reserved) × (room_at rooms spot ≡ Some reserved)

-- the spot of a packet
abbrev pub packet_spot : Packet → ℕ
packet_spot packet = packet.spot

-- the packet's spot is not reserved
abbrev pub IsOffRooms : List (Option Reserved) → Packet → Type 0
IsOffRooms rooms packet = room_at rooms packet.spot ≡ None

-- the sectors in no partition stay as they are
abbrev pub KeepsOutside : List Extent → AdapterView → AdapterView → Type 0
KeepsOutside partitions old new =
    (sector : ℕ) → (Any (IsIn sector) partitions → ⊥) → slice_get new.sectors sector ≡ slice_get old.sectors sector

-- A REQUEST AND ITS PACKET

-- how many bytes of data a request has
abbrev pub transfer_length : Rules → Request → ℕ
transfer_length rules r = if is_transfer r.kind then r.extent.count * rules.sector_size else 0

-- the sectors of the disk that a request asks for
abbrev pub sectors_asked : Rules → Request → Extent
sectors_asked rules r = record { first = home rules (Some r.volume) r.extent.first; count = r.extent.count }

-- the command that asks for all of a request
abbrev pub whole_command : Rules → Request → Cdb
whole_command rules r = command_for rules (as_client rules r []) (all_places rules (as_client rules r [])) r.kind

-- the flags of an SRB that say which way its data go
abbrev pub direction : Kind → ℕ
direction Read = 0x40
direction Write = 0x80
direction Flush = 0

-- an SRB asks for all of a request: its block is the one that does, its data have the request's length, it has room for
-- a label where labels keep their bytes, and no sense data
pub record AsksFor (rules : Rules) (r : Request) (srb : Srb) : Type 0 where
  pub function : srb.function ≡ ExecuteScsi
  pub flags : srb.flags.0 ≡ direction r.kind
  pub asks : Means srb.block (whole_command rules r)
  pub plain : IsPlain srb.block (whole_command rules r)
  pub data_length : length srb.data ≡ transfer_length rules r
  pub label_length : IsTrue rules.keeps_bytes → transfer_length rules r ≤ srb.for_label
  pub sense : srb.sense ≡ None

-- what a packet carries for its request: an SRB where the layer takes one, else a buffer of its length
abbrev pub Carries : Bool → Rules → Request → Payload → Type 0
Carries true rules r (Packed srb) = AsksFor rules r srb
Carries true rules r (Buffer bytes) = ⊥
Carries true rules r AtAdapter = ⊥
Carries false rules r (Packed srb) = ⊥
Carries false rules r (Buffer bytes) = length bytes ≡ transfer_length rules r
Carries false rules r AtAdapter = ⊥

-- the bytes that a packet carries
abbrev pub payload_bytes : Payload → List ℕ
payload_bytes (Packed srb) = srb.data
payload_bytes (Buffer bytes) = bytes
payload_bytes AtAdapter = []

-- the bytes that a request brings along: those of a write
abbrev pub sent_bytes : Kind → Payload → List ℕ
sent_bytes Write payload = payload_bytes payload
sent_bytes Read payload = []
sent_bytes Flush payload = []

-- the major function of a request's location: that of a SCSI request where the packet has an SRB
abbrev pub major_of : Bool → Kind → MajorFunction
major_of true kind = InternalDeviceControl
major_of false Read = MajorRead
major_of false Write = MajorWrite
major_of false Flush = FlushBuffers

-- the packet's last location, the layer's own, asks for this request; its flags are SL_WRITE_THROUGH or none
pub record AsksInLocation (takes_srb : Bool) (r : Request) (irp : Irp) : Type 0 where
  pub higher : List StackLocation
  pub own : StackLocation
  pub is_own : HasOwn irp higher own
  pub major : own.major ≡ major_of takes_srb r.kind
  pub flags : own.flags.0 ≡ (if r.through then 0x04 else 0)
  pub volume : own.volume ≡ r.volume
  pub extent : own.extent ≡ r.extent

-- a request that a layer takes: of some sectors of a volume, no more than its longest; a flush has none
pub record IsBounded (rules : Rules) (r : Request) : Type 0 where
  pub known : r.volume < length rules.partitions
  pub some : IsTrue (is_transfer r.kind) → 0 < r.extent.count
  pub none : IsFalse (is_transfer r.kind) → r.extent.count ≡ 0
  pub inside : r.extent.first + r.extent.count ≤ sectors_of rules (Some r.volume)
  pub short : r.extent.count ≤ rules.longest

-- WHAT HOLDS OF A LAYER IN ORDER, BETWEEN ITS CALLS

-- what the adapter knows of a piece
pub record OnTag : Type 0 where
  pub number : ℕ
  pub tag : ℕ
  pub fate : Fate

-- what the adapter knows of a piece of the machine
abbrev pub piece_on_tag : Piece → OnTag
piece_on_tag piece = record { number = piece.number; tag = piece.tag; fate = piece.fate }

-- what the adapter knows of the piece on one of its tags
abbrev pub use_on_tag : TagInUse → OnTag
use_on_tag in_use = record { number = in_use.piece; tag = in_use.tag; fate = in_use.fate }

-- where acts move no arrays, a piece that has done nothing yet may act with the bytes that its SRB has: those of a write are its
-- request's
abbrev pub MayAct : Rules → State → TagInUse → Type 0
MayAct rules s in_use =
    IsFalse rules.faithful → in_use.fate ≡ Fresh → (acted : State) × Run rules s (as_label (Act in_use.piece in_use.srb.data) ∷ []) acted

-- the arrays are the adapter's sectors in the partitions, and the pieces out are those on its tags
pub record IsRead (rules : Rules) (s : State) (adapter : AdapterView) : Type 0 where
  pub same_size : rules.sector_size ≡ adapter.sector_size
  pub same_sectors : rules.disk_sectors ≡ length adapter.sectors
  pub same_depth : rules.depth ≡ adapter.depth
  pub arrays : s.arrays ≡ map (sectors_in adapter.sectors) rules.partitions
  pub pieces : IsPermutation (map piece_on_tag s.pieces) (map use_on_tag adapter.tags)
  pub may_act : All (MayAct rules s) adapter.tags

-- a request that is neither cancelled nor started is late, or behind a window of open ones
abbrev pub WaitsForTag : Rules → State → OpenRequest → Type 0
WaitsForTag rules s o =
    IsFalse o.cancelled → IsFalse (is_started o) → IsTrue o.late ⊎ IsFull rules.window (count_by (is_lower o.number) s.requests)

-- what is settled of a layer after each call, whether or not its ended packets were taken: with a tag free, nothing
-- that may go waits; the other settled facts hold once no ended packet is left to be taken
pub record IsSending (rules : Rules) (s : State) : Type 0 where
  pub sent : length s.pieces < rules.depth → IsFalse s.removing → All (IsAllSent rules) s.requests
  pub released : length s.pieces < rules.depth → IsFalse s.removing → All (WaitsForTag rules s) s.requests
  pub within_window : IsWithin rules.window (started_count s)

-- the places for labels that are spoken for: those of recorded labels, and one for each free tag
abbrev pub label_places : DeviceView → ℕ
label_places v = length v.adapter.labels + (v.rules.depth - length v.state.pieces)

-- what holds of a layer between its calls
pub record IsOrderly (v : DeviceView) : Type 0 where
  pub adapter : IsInOrder v.adapter
  pub read : IsRead v.rules v.state v.adapter
  pub distinct : AreDistinct v.state
  pub places : HavePlaces v.state
  pub packets : IsPermutation (map packet_number v.packets) (map request_number v.state.requests)
  pub spots : IsDistinct eqb (map packet_spot v.packets)
  pub vacant : All (IsOffRooms v.rooms) v.packets
  pub sending : IsSending v.rules v.state
  pub labels : label_places v ≤ 64
  pub uncounted : v.rules.open_requests ≡ None
  pub none_owed : IsNone v.state.owed
  pub not_removed : IsFalse v.state.removed
