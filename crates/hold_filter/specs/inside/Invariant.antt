-- What the filter keeps.
use Rattle.std.specs.Prelude.{◌≡◌, ◌<◌, ◌≤◌, ◌⊎◌, ℕ, ◌+◌, ◌^◌, ◌==◌, Bool, false, List, [], ◌∷◌, ◌++◌, map, length}
use Rattle.std.specs.Prelude.{Option, Some, None, is_none, IsTrue, IsFalse, All, eqb}
use Rattle.std.specs.List.{IsDistinct}
use Rattle.irp.specs.declared.StackLocation.{StackLocation}
use Rattle.machine.specs.declared.ClientRequest.{ClientRequest}
use Rattle.machine.specs.Rules.{Rules, is_transfer, is_in_bounds, place_count, as_client}
use Rattle.machine.specs.State.{OpenRequest}
use Rattle.machine.specs.Numbers.{AreDistinct}
use Rattle.machine.specs.Window.{Holds}
use Rattle.device.specs.View.{DeviceView, Packet, Reserved, IsOrderly, AsksInLocation, Carries}
use Rattle.device.specs.View.{room_at, whole_for, packet_spot}
use Rattle.hold_filter.specs.declared.table.Held.{Held}
use Rattle.hold_filter.specs.inside.TableView.{Limits, TableView, packet_in, here}
use Rattle.hold_filter.specs.inside.Packets.{request_in, silent}
use Rattle.hold_filter.specs.inside.TableCalls.{IsCovered}
use Rattle.hold_filter.specs.inside.View.{frame_of, state_of, view_of}
use Rattle.hold_filter.specs.inside.Releases.{NoneMayGo}

-- the packet was submitted before this one
abbrev pub IsBefore : ℕ × Held → ℕ × Held → Type 0
IsBefore e other = e.1.irp.value.number < other.1.irp.value.number

-- packets in the order in which they were submitted
abbrev pub AreInTurn : List (ℕ × Held) → Type 0
AreInTurn [] = Unit {0}
AreInTurn (e ∷ rest) = All (IsBefore e) rest × AreInTurn rest

-- the packet is cancelled
abbrev pub IsCancelled : Held → Type 0
IsCancelled held = IsTrue held.irp.value.cancelled

-- the packet's number is not below this one
abbrev pub IsFrom : ℕ → ℕ × Held → Type 0
IsFrom next e = next ≤ e.1.irp.value.number

-- the device below has a location of its own and no window
pub record IsBelow (stack_size : ℕ) (v : DeviceView) : Type 0 where
  pub own_location : 0 < stack_size
  pub no_window : v.rules.window ≡ None
  pub most : v.most < 2 ^ 128

-- the last location above a packet below, the filter's own, asks for no routine
abbrev pub IsPassed : Packet → Type 0
IsPassed p = (higher : List StackLocation) × (own : StackLocation) × (p.above ≡ higher ++ silent own ∷ [])

-- a request that a machine admits while it is not removed, whatever bytes come with it
pub record IsAdmitted (rules : Rules) (q : ClientRequest) : Type 0 where
  pub known : IsFalse (is_none q.partition)
  pub inside : IsTrue (is_transfer q.kind) → IsTrue (is_in_bounds rules q)
  pub some : IsTrue (is_transfer q.kind) → IsFalse (q.length == 0)
  pub places : 0 < place_count rules q

-- the open request is one that a machine admits
abbrev pub AsksAdmitted : Rules → OpenRequest → Type 0
AsksAdmitted rules o = IsAdmitted rules o.request

-- the packet asks for a request that a machine admits
abbrev pub IsAsked : Rules → Held → Type 0
IsAsked rules held = IsAdmitted rules (as_client rules (request_in held.irp.value) [])

-- the packet carries what its request asks for, as it came
abbrev pub IsWhole : Rules → Held → Type 0
IsWhole rules held = Carries false rules (request_in held.irp.value) held.irp.value.payload

-- a packet that is held has what it needs to go below
pub record CanGo (stack_size : ℕ) (rules : Rules) (held : Held) : Type 0 where
  pub asks : AsksInLocation false (request_in held.irp.value) held.irp.value
  pub locations : length held.irp.value.locations.items + (1 + stack_size) ≤ 5
  pub carries : Carries false rules (request_in held.irp.value) held.irp.value.payload
  pub not_cancelled : IsFalse held.irp.value.cancelled

-- the packet of an entry of the queue can go
abbrev pub EntryCanGo : ℕ → Rules → ℕ × Held → Type 0
EntryCanGo stack_size rules e = CanGo stack_size rules e.1

-- SPOTS

-- the spot of a packet in the filter
abbrev pub spot_in : Held → ℕ
spot_in held = held.room.spot

-- an entry stands at its packet's spot
abbrev pub IsAtOwn : ℕ × Held → Type 0
IsAtOwn e = e.0 ≡ e.1.room.spot

-- all that the packet's request needs is reserved at its spot below
abbrev pub HasRoom : List (Option Reserved) → Held → Type 0
HasRoom rooms held = room_at rooms held.room.spot ≡ Some (whole_for (request_in held.irp.value))

-- both queues have a place for the spot of this packet, which is below
abbrev pub HasPlace : Limits → Packet → Type 0
HasPlace places packet = IsCovered places (packet_spot packet)

-- each room below is for a request that is admitted, and has a place in the queues; each packet below has a place too;
-- the packets in the filter have rooms of their own
pub record RoomsKept (rules : Rules) (rooms : List (Option Reserved)) (packets : List Packet)
    (held ended : List (ℕ × Held)) (places : Limits) : Type 0 where
  pub bounded : (spot : ℕ) (r : Reserved) → room_at rooms spot ≡ Some r
      → IsAdmitted rules (as_client rules r.request [])
  pub covered : (spot : ℕ) (r : Reserved) → room_at rooms spot ≡ Some r → IsCovered places spot
  pub taken : All (HasPlace places) packets
  pub reserved : All (HasRoom rooms) (map packet_in held ++ map packet_in ended)
  pub apart : IsDistinct eqb (map spot_in (map packet_in held ++ map packet_in ended))
  pub held_own : All IsAtOwn held
  pub ended_own : All IsAtOwn ended

-- ALL

-- what holds at every moment, also between two packets that go below
pub record FilterKept (stack_size : ℕ) (v : DeviceView) (b : TableView) : Type 0 where
  pub below : IsBelow stack_size v
  pub ordered : IsOrderly v
  pub rooms : RoomsKept v.rules v.rooms v.packets b.held b.ended b.places
  pub asked : All (IsAsked v.rules) (here b)
  pub asked_below : All (AsksAdmitted v.rules) v.state.requests
  pub can_go : All (EntryCanGo stack_size v.rules) b.held
  pub cancelled : All IsCancelled (map packet_in b.ended)
  pub whole : All (IsWhole v.rules) (map packet_in b.ended)
  pub in_turn : AreInTurn b.held
  pub holds : Holds b.window (frame_of v.rules b) v.state
  pub distinct : AreDistinct (state_of v b)
  pub counted : b.below ≡ length v.packets
  pub passed : All IsPassed v.packets
  -- packets go below under rising numbers
  pub next_below : v.state.next_request ≤ b.last_number + 1
  pub later : All (IsFrom v.state.next_request) b.held
  pub some_window : 0 < b.window
  pub removing : b.removing ≡ v.state.removing
  pub going : IsTrue b.removing → IsFalse b.paused
  -- a packet that was cancelled while it was held is above a full window, or was cancelled during the pause
  pub full : IsFalse b.paused → IsFalse b.removing → (b.ended ≡ []) ⊎ (b.window ≤ length v.state.requests)
  pub submitted : v.submitted + length b.held ≤ b.submitted
  pub few : b.submitted ≤ v.most

-- what holds between calls
pub record IsInHand (stack_size : ℕ) (v : DeviceView) (b : TableView) : Type 0 where
  pub kept : FilterKept stack_size v b
  pub released : NoneMayGo v b
  pub orderly : IsOrderly (view_of v b)

-- what holds of a filter, whose device below takes packets without an SRB
pub record IsFilter (takes_srb : Bool) (stack_size : ℕ) (v : DeviceView) (b : TableView) : Type 0 where
  pub buffers : IsFalse takes_srb
  pub in_hand : IsInHand stack_size v b
