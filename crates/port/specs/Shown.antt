-- What the port shows: the sector machine, as its queues and the adapter below say.
use Rattle.std.specs.Prelude.{ℕ, ◌+◌, ◌^◌, true, false, List, [], ◌∷◌, ◌++◌, map, replicate, Option, Some, None}
use Rattle.ntstatus.specs.declared.NtStatus.{NtStatus}
use Rattle.ntstatus.specs.declared.NtStatus.TheVariants.{Success, DeviceBusy}
use Rattle.ntstatus.specs.Table.{status_of}
use Rattle.srb.specs.declared.Class.TheVariants.{Good, Busy, Bad}
use Rattle.srb.specs.declared.status.SrbStatus.TheVariants.{RequestFlushed, NoDevice}
use Rattle.srb.specs.Status.{code_of}
use Rattle.adapter.specs.View.{AdapterView, TagInUse}
use Rattle.irp.specs.declared.Payload.{Payload}
use Rattle.irp.specs.declared.Payload.TheVariants.{Srb as Packed}
use Rattle.srb.specs.declared.Kind.TheVariants.{Flush}
use Rattle.machine.specs.declared.Request.{Request}
use Rattle.machine.specs.Rules.{Rules, place_count, as_client}
use Rattle.machine.specs.State.{Mark, Untouched, Out, Done, Failed, Back, OpenRequest, Piece, State}
use Rattle.machine.specs.Sending.{status_of_completion}
use Rattle.sector.specs.Extents.{sectors_in}
use Rattle.device.specs.View.{Packet, DeviceView, sent_bytes, Reserved, whole_for}
use Rattle.device.specs.Served.{sectors_moved}
use Rattle.port.specs.declared.queues.Sizes.{Sizes}
use Rattle.port.specs.declared.queues.PortPacket.{PortPacket}
use Rattle.port.specs.declared.queues.Ended.{Ended}
use Rattle.port.specs.declared.queues.Outcome.{Outcome}
use Rattle.port.specs.declared.queues.Outcome.TheVariants.{Returned, Withdrawn, Gone}
use Rattle.port.specs.inside.TableView.{PacketEntry, TableView, entry_of, ended_entry, in_all}
use Rattle.port.specs.inside.TableCalls.{held_on}

-- the disk is one volume; each request goes as one piece, once, and its first busy return ends it
abbrev pub rules_of : Sizes → Rules
rules_of sizes = record {
  sector_size = sizes.sector_size;
  disk_sectors = sizes.sectors;
  partitions = record { first = 0; count = sizes.sectors } ∷ [];
  longest = sizes.max_transfer;
  max_transfer = sizes.max_transfer;
  depth = sizes.depth;
  open_requests = None;
  window = None;
  one_piece = true;
  busy_limit = 1;
  any_cut = false;
  faithful = sizes.faithful;
  keeps_bytes = sizes.keeps_bytes;
}

-- the places of a request
abbrev pub places_of : Rules → Request → ℕ
places_of rules r = place_count rules (as_client rules r [])

-- all places of a request with one mark
abbrev pub all_places : Rules → Request → Mark → List Mark
all_places rules r mark = replicate (places_of rules r) mark

-- the marks of a packet that ended
abbrev pub marks_left : Rules → Request → Payload → Outcome → List Mark
marks_left rules r payload (Returned Good) = map Done (sectors_moved rules r payload)
marks_left rules r payload (Returned Busy) = all_places rules r Back
marks_left rules r payload (Returned (Bad completion)) = all_places rules r (Failed (status_of_completion completion))
marks_left rules r payload Withdrawn = all_places rules r Untouched
marks_left rules r payload Gone = all_places rules r Untouched

-- the busy returns of a packet that ended
abbrev pub busy_left : Outcome → ℕ
busy_left (Returned Good) = 0
busy_left (Returned Busy) = 1
busy_left (Returned (Bad completion)) = 0
busy_left Withdrawn = 0
busy_left Gone = 0

-- how a packet ended: as its piece came back, or as the port itself ended it, by the status of its SRB
abbrev pub status_left : Outcome → NtStatus
status_left (Returned Good) = Success
status_left (Returned Busy) = DeviceBusy
status_left (Returned (Bad completion)) = status_of_completion completion
status_left Withdrawn = status_of (code_of RequestFlushed) 0 None
status_left Gone = status_of (code_of NoDevice) 0 None

-- OPEN REQUESTS AND PIECES

-- a packet as an open request of the machine
abbrev pub open_as : Rules → PacketEntry → Payload → ℕ → List Mark → OpenRequest
open_as rules e payload busy marks = record {
  number = e.number;
  request = as_client rules e.request (sent_bytes e.request.kind payload);
  cancelled = e.cancelled;
  late = false;
  busy_returns = busy;
  marks = marks;
}

-- the open request of a packet that waits: nothing of it was sent
abbrev pub waiting_open : Rules → PortPacket → OpenRequest
waiting_open rules held = open_as rules (entry_of held) held.irp.value.payload 0 (all_places rules held.request Untouched)

-- the open request of a packet that ended
abbrev pub done_open : Rules → Ended → OpenRequest
done_open rules d = open_as rules (ended_entry d) d.irp.value.payload (busy_left d.outcome) (marks_left rules d.request d.irp.value.payload d.outcome)

-- what stands for the packet of a tag that has none; it is never shown
abbrev pub nobody : PacketEntry
nobody = record {
  number = 0;
  above = [];
  cancelled = false;
  cancel_routine = None;
  spot = 0;
  request = record { volume = 0; kind = Flush; extent = record { first = 0; count = 0 }; through = false };
}

-- a packet, or what stands for none
abbrev pub entry_or_nobody : Option PortPacket → PacketEntry
entry_or_nobody None = nobody
entry_or_nobody (Some held) = entry_of held

-- the packet of a tag
abbrev pub entry_on : List (Option PortPacket) → ℕ → PacketEntry
entry_on started tag = entry_or_nobody (held_on started tag)

-- the open request of a packet at the adapter, by what the adapter shows of it
abbrev pub out_open : Rules → PacketEntry → TagInUse → OpenRequest
out_open rules e use' = open_as rules e (Packed use'.srb) 0 (all_places rules e.request Out)

-- the one piece of a packet at the adapter, which has all of its places
abbrev pub out_piece : Rules → PacketEntry → TagInUse → Piece
out_piece rules e use' = record {
  number = use'.piece;
  tag = use'.tag;
  owner = e.number;
  places = record { first = 0; count = places_of rules e.request };
  fate = use'.fate;
}

-- the packet as the layer above sees it
abbrev pub packet : PacketEntry → Packet
packet e = record { number = e.number; spot = e.spot; above = e.above; cancel_routine = e.cancel_routine }

-- the open request of a tag in use
abbrev pub open_on : Rules → List (Option PortPacket) → TagInUse → OpenRequest
open_on rules started use' = out_open rules (entry_on started use'.tag) use'

-- the piece of a tag in use
abbrev pub piece_on : Rules → List (Option PortPacket) → TagInUse → Piece
piece_on rules started use' = out_piece rules (entry_on started use'.tag) use'

-- a fact of a packet that waits
abbrev pub of_waiting : {Y : Type 0} → (PacketEntry → Y) → PortPacket → Y
of_waiting f held = f (entry_of held)

-- a fact of the packet of a tag in use
abbrev pub of_tag : {Y : Type 0} → (PacketEntry → Y) → List (Option PortPacket) → TagInUse → Y
of_tag f started use' = f (entry_on started use'.tag)

-- a fact of a packet that ended
abbrev pub of_done : {Y : Type 0} → (PacketEntry → Y) → Ended → Y
of_done f d = f (ended_entry d)

-- WHAT IS SHOWN

-- what is reserved in a slot
abbrev pub reserved_in : Option (Option Request) → Option Reserved
reserved_in None = None
reserved_in (Some None) = None
reserved_in (Some (Some request)) = Some (whole_for request)

-- the requests of the slots that are reserved
abbrev pub reserved_of : List (Option (Option Request)) → List Request
reserved_of [] = []
reserved_of (None ∷ slots) = reserved_of slots
reserved_of (Some None ∷ slots) = reserved_of slots
reserved_of (Some (Some request) ∷ slots) = request ∷ reserved_of slots

-- the open requests: those of packets that wait, of packets at the adapter, and of packets that ended
abbrev pub requests_of : TableView → AdapterView → List OpenRequest
requests_of b v =
    map (waiting_open (rules_of b.sizes)) b.waiting
    ++ (map (open_on (rules_of b.sizes) b.started) v.tags ++ map (done_open (rules_of b.sizes)) b.done)

-- a fact of each packet
abbrev pub of_packets : {Y : Type 0} → (PacketEntry → Y) → TableView → AdapterView → List Y
of_packets {Y} f b v = map (of_waiting f) b.waiting ++ (map (of_tag f b.started) v.tags ++ map (of_done f) b.done)

-- all packets as the layer above sees them
abbrev pub packets_of : TableView → AdapterView → List Packet
packets_of b v = of_packets packet b v

-- the machine
abbrev pub state_of : TableView → AdapterView → State
state_of b v = record {
  arrays = map (sectors_in v.sectors) (rules_of b.sizes).partitions;
  next_request = b.last_request + 1;
  next_piece = b.next_piece;
  requests = requests_of b v;
  pieces = map (piece_on (rules_of b.sizes) b.started) v.tags;
  owed = None;
  paused = false;
  removing = b.removing;
  removed = false;
}

-- requests that may be submitted in all
abbrev pub most : ℕ
most = 2 ^ 96

-- all that the port shows
abbrev pub view_of : TableView → AdapterView → DeviceView
view_of b v = record {
  rules = rules_of b.sizes;
  state = state_of b v;
  packets = packets_of b v;
  rooms = map reserved_in b.rooms;
  submitted = b.submitted;
  most = most;
  places = in_all b.capacity;
  adapter = v;
}
