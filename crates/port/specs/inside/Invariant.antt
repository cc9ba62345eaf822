-- What the port keeps.
use Rattle.std.specs.Prelude.{◌≡◌, ◌<◌, ◌≤◌, ◌+◌, ◌-◌, ℕ, Bool, true, List, [], ◌∷◌, length, Option, Some, None, IsTrue, IsFalse, All, eqb, slice_index_or}
use Rattle.std.specs.List.{concat, IsDistinct}
use Rattle.srb.specs.declared.Srb.{Srb}
use Rattle.srb.specs.declared.Class.TheVariants.{Good, Busy, Bad}
use Rattle.srb.specs.Fate.{Fate, Fresh, Acted, Faulted, class_of}
use Rattle.adapter.specs.View.{AdapterView, TagInUse, IsInOrder, IsReserved}
use Rattle.irp.specs.declared.Payload.TheVariants.{Srb as Packed}
use Rattle.srb.specs.declared.Kind.TheVariants.{Read, Write, Flush}
use Rattle.machine.specs.declared.Request.{Request}
use Rattle.machine.specs.Rules.{Rules}
use Rattle.machine.specs.Numbers.{AreDistinct}
use Rattle.device.specs.View.{AsksFor, Carries, IsBounded, IsOrderly, payload_bytes, transfer_length}
use Rattle.port.specs.declared.queues.Sizes.{Sizes}
use Rattle.port.specs.declared.queues.PortPacket.{PortPacket}
use Rattle.port.specs.declared.queues.Ended.{Ended}
use Rattle.port.specs.declared.queues.Outcome.{Outcome}
use Rattle.port.specs.declared.queues.Outcome.TheVariants.{Returned, Withdrawn, Gone}
use Rattle.port.specs.inside.TableView.{PacketEntry, TableView, spot_in}
use Rattle.port.specs.inside.TableCalls.{held_on}
use Rattle.port.specs.Shown.{rules_of, of_packets, state_of, view_of, most, reserved_of}
use Rattle.device.specs.Served.{sectors_moved}

-- the sizes are the adapter's
pub record AreSizes (sizes : Sizes) (v : AdapterView) : Type 0 where
  pub sector_size : sizes.sector_size ≡ v.sector_size
  pub sectors : sizes.sectors ≡ length v.sectors
  pub max_transfer : sizes.max_transfer ≡ v.max_transfer
  pub depth : sizes.depth ≡ v.depth
  pub faithful : sizes.faithful ≡ v.faithful
  pub keeps_bytes : sizes.keeps_bytes ≡ v.keeps_bytes

-- all places that the request needs are made
pub record IsRoom (rules : Rules) (v : AdapterView) (r : Request) : Type 0 where
  pub bounded : IsBounded rules r
  pub reserved : r.kind ≡ Write → IsReserved v r.extent

-- a packet that waits carries what its request asks for, has its room, and is not cancelled
pub record IsWaiting (rules : Rules) (v : AdapterView) (held : PortPacket) : Type 0 where
  pub room : IsRoom rules v held.request
  pub carries : Carries true rules held.request held.irp.value.payload
  pub not_cancelled : IsFalse held.irp.value.cancelled

-- a flush has no bytes
abbrev pub IsEmptyIfFlush : Request → List ℕ → Type 0
IsEmptyIfFlush r bytes = r.kind ≡ Flush → bytes ≡ []

-- the packet was submitted before the other
abbrev pub IsBefore : PortPacket → PortPacket → Type 0
IsBefore held other = held.irp.value.number < other.irp.value.number

-- packets in the order in which they were submitted
abbrev pub AreInTurn : List PortPacket → Type 0
AreInTurn [] = Unit {0}
AreInTurn (held ∷ rest) = All (IsBefore held) rest × AreInTurn rest

-- the SRB asks for the request until its piece acts; then its data are what the piece moved
abbrev pub IsDoing : Rules → Request → Fate → Srb → Type 0
IsDoing rules r Fresh srb = AsksFor rules r srb
IsDoing rules r (Acted moved) srb =
    (srb.data ≡ concat moved) × (sectors_moved rules r (Packed srb) ≡ moved) × (r.kind ≡ Read → length srb.data ≡ transfer_length rules r)
IsDoing rules r Faulted srb = Unit {0}

-- the packet of a tag in use
pub record IsAtWork (rules : Rules) (started : List (Option PortPacket)) (use' : TagInUse) : Type 0 where
  pub held : PortPacket
  pub on_tag : held_on started use'.tag ≡ Some held
  pub bounded : IsBounded rules held.request
  pub doing : IsDoing rules held.request use'.fate use'.srb
  pub empty : IsEmptyIfFlush held.request use'.srb.data

-- why a packet ended
abbrev pub HasOutcome : Rules → Bool → Ended → Outcome → Type 0
HasOutcome rules removing d (Returned Good) =
    (concat (sectors_moved rules d.request d.irp.value.payload) ≡ payload_bytes d.irp.value.payload)
    × (d.request.kind ≡ Read → length (payload_bytes d.irp.value.payload) ≡ transfer_length rules d.request)
HasOutcome rules removing d (Returned Busy) = Carries true rules d.request d.irp.value.payload
HasOutcome rules removing d (Returned (Bad completion)) = class_of completion ≡ Bad completion
HasOutcome rules removing d Withdrawn = IsTrue d.irp.value.cancelled
HasOutcome rules removing d Gone = IsTrue removing

-- a packet that ended for a reason
pub record HasEnded (rules : Rules) (removing : Bool) (d : Ended) : Type 0 where
  pub bounded : IsBounded rules d.request
  pub why : HasOutcome rules removing d d.outcome
  pub empty : IsEmptyIfFlush d.request (payload_bytes d.irp.value.payload)

-- what a packet asks for
abbrev pub asked : PacketEntry → Request
asked e = e.request

-- a packet has the spot
abbrev pub IsTaken : List (Option (Option Request)) → ℕ → Type 0
IsTaken rooms spot = slice_index_or rooms spot None ≡ Some None

-- what holds at every moment, also between two starts
pub record PortKept (b : TableView) (v : AdapterView) (rooms : List Request) : Type 0 where
  pub adapter : IsInOrder v
  pub sizes : AreSizes b.sizes v
  pub started : length b.started ≡ b.sizes.depth
  pub waiting : All (IsWaiting (rules_of b.sizes) v) b.waiting
  pub in_turn : AreInTurn b.waiting
  pub at_work : All (IsAtWork (rules_of b.sizes) b.started) v.tags
  pub ended : All (HasEnded (rules_of b.sizes) b.removing) b.done
  pub reserved : All (IsRoom (rules_of b.sizes) v) (of_packets asked b v)
  pub rooms_out : All (IsRoom (rules_of b.sizes) v) rooms
  -- each packet has a spot of its own, which no room has
  pub spots : IsDistinct eqb (of_packets spot_in b v)
  pub taken : All (IsTaken b.rooms) (of_packets spot_in b v)
  pub removing : IsTrue b.removing → b.waiting ≡ []
  pub distinct : AreDistinct (state_of b v)
  -- each packet has a place in the queues, and so has each room that is out
  pub places : length rooms + (length b.waiting + (length v.tags + length b.done)) ≡ b.places
  pub submitted : b.submitted ≤ most
  pub accepted : v.accepted + length b.waiting ≤ b.submitted + 3
  pub numbered : b.next_piece + length b.waiting ≤ b.submitted + 1
  pub labels : length v.labels + (v.depth - length v.tags) ≤ 64

-- with a tag free no packet waits
abbrev pub IsBusy : TableView → AdapterView → Type 0
IsBusy b v = length v.tags < v.depth → b.waiting ≡ []

-- what holds between calls
pub record IsInHand (b : TableView) (v : AdapterView) (rooms : List Request) : Type 0 where
  pub kept : PortKept b v rooms
  pub busy : IsBusy b v
  pub orderly : IsOrderly (view_of b v)

-- what holds of a port: the rooms are the spots that are reserved
abbrev pub IsSound : TableView → AdapterView → Type 0
IsSound b v = IsInHand b v (reserved_of b.rooms)
