-- The class driver as a layer: what it shows, and what holds of it between calls.
use Rattle.std.specs.Prelude.{◌≡◌, ◌≢◌, ◌⊎◌, ◌<◌, ◌≤◌, ⊤, ℕ, ◌+◌, ◌*◌, ◌^◌, Bool, true, false, List, [], ◌∷◌}
use Rattle.std.specs.Prelude.{◌++◌, map, length, take, slice_range, replicate, IsTrue, All, Any, IsPermutation}
use Rattle.ntstatus.specs.declared.NtStatus.TheVariants.{Success, DeviceBusy, Cancelled, NoSuchDevice}
use Rattle.irp.specs.declared.Payload.{Payload}
use Rattle.srb.specs.declared.Kind.TheVariants.{Read, Write, Flush}
use Rattle.machine.specs.declared.Request.{Request}
use Rattle.machine.specs.Rules.{Rules, place_count, as_client}
use Rattle.machine.specs.State.{Mark, Untouched, Done, Failed, Back, OpenRequest, IsSame}
use Rattle.machine.specs.Marks.{AreCounted}
use Rattle.machine.specs.Settled.{Settled}
use Rattle.device.specs.View.{DeviceView, IsTopmost, Packet, Carries, packet_of, payload_bytes, sent_bytes}
use Rattle.device.specs.View.{transfer_length, IsOrderly, IsBounded}
use Rattle.device.specs.inside.Out.{Ticket}
use Rattle.class_disk.specs.inside.Rooms.{AllOut}
use Rattle.class_disk.specs.inside.Owners.{AreOwnedFrom}
use Rattle.device.specs.Served.{sectors_moved, AwaitsRestartIfEnded, IsAt}
use Rattle.class_disk.specs.declared.parts.Part.{Part}
use Rattle.class_disk.specs.declared.parts.Progress.{Progress}
use Rattle.class_disk.specs.declared.parts.Progress.TheVariants.{Ready, Below, Ended as HasEnded}
use Rattle.class_disk.specs.declared.parts.Outcome.{Outcome}
use Rattle.class_disk.specs.declared.parts.Outcome.TheVariants.{Good, Failed as IsBad, Busy, Withdrawn}
use Rattle.class_disk.specs.declared.parts.PartId.{PartId}
use Rattle.class_disk.specs.inside.Blocks.{requests_for, goes_whole, AreSizes}
use Rattle.class_disk.specs.inside.TableView.{Opened, TableView, ClosedSlot, is_whole, room_in_all, all_open, ended_in, restarts_left}
use Rattle.class_disk.specs.inside.Parts.{HasBuffers, HoldsData, payload_in, status_by, tickets_of, WasSent}
use Rattle.class_disk.specs.inside.Parts.{restarts_of, unfinished_of}
use Rattle.class_disk.specs.inside.TableCalls.{bytes_from}
use Rattle.class_disk.specs.inside.Joint.{Note, Sent, Kept, Known, Joint, known_of, shown_mark, below}
use Rattle.class_disk.specs.inside.Invariant.{IsSound, Keeps, HasSome, IsOver, noted_busy}
use Rattle.class_disk.specs.Opening.{TakesParts, most_over}
use Rattle.class_disk.specs.Shown.{class_rules, IsPort}
use Rattle.class_disk.specs.inside.Machine.{shown_state}

-- WHAT THE CLASS DRIVER KNOWS OF A REQUEST

-- how many busy returns the last packet of a part adds
abbrev pub busy_left : Outcome → ℕ
busy_left Good = 0
busy_left (IsBad status) = 0
busy_left (Busy status) = 1
busy_left (Withdrawn status) = 0

-- the request below of this number asks for just this
abbrev pub AsksUnder : Rules → Request → ℕ → OpenRequest → Type 0
AsksUnder rules r number o = o.number ≡ number → record o.request { bytes = [] } ≡ as_client rules r []

-- why a part ended with no success: its piece failed, its request is cancelled, the device is removed, or it came back
-- busy too often
abbrev pub IsCause : (cancelled removing : Bool) (busy : ℕ) → Outcome → Type 0
IsCause cancelled removing busy Good = ⊤
IsCause cancelled removing busy (IsBad status) = status ≢ Success
IsCause cancelled removing busy (Busy told) =
    (IsTrue cancelled × (told ≡ Cancelled)) ⊎ (IsTrue removing × (told ≡ NoSuchDevice)) ⊎ ((17 ≤ busy) × (told
    ≡ DeviceBusy))
IsCause cancelled removing busy (Withdrawn told) = (IsTrue cancelled × (told ≡ Cancelled)) ⊎ (IsTrue removing
    × (told ≡ NoSuchDevice))

-- the places of a part
abbrev pub places_of : Rules → Part → ℕ
places_of rules part = place_count rules (as_client rules part.request [])

-- the marks of a part that has ended
abbrev pub marks_left : Rules → Part → Payload → Outcome → List Mark
marks_left rules part payload Good = map Done (sectors_moved rules part.request payload)
marks_left rules part payload (IsBad status) = replicate (places_of rules part) (Failed status)
marks_left rules part payload (Busy status) = replicate (places_of rules part) Back
marks_left rules part payload (Withdrawn status) =
    map (shown_mark part.restarts) (replicate (places_of rules part) Untouched)

-- what is known of a part: its number below, or what became of it
abbrev pub note_by : Rules → Part → Progress → Note
note_by rules part (Ready place) = Kept (replicate (places_of rules part) Untouched) 0
note_by rules part (Below number spot) = Sent number part.restarts
note_by rules part (HasEnded ended) =
    Kept (marks_left rules part (payload_in ended.packet) ended.outcome) (part.restarts + busy_left ended.outcome)

abbrev pub note : Rules → Part → Note
note rules part = note_by rules part part.progress

abbrev pub known : Rules → Opened → Known
known rules o = record {
  number = o.irp.number;
  request = as_client rules o.request (sent_bytes o.request.kind o.irp.payload);
  cancelled = o.irp.cancelled;
  parts = map (note rules) o.parts;
}

-- what the class driver knows of each open request
abbrev pub knowns : Rules → TableView → List Known
knowns rules b = map (known rules) (all_open b)

-- the packet of an open request as the layer above has it: its spot is its slot
abbrev pub packet_above : ℕ × Opened → Packet
packet_above e = packet_of e.1.irp e.0

-- WHAT IT SHOWS

abbrev pub view_of : DeviceView → TableView → DeviceView
view_of v b = record {
  rules = class_rules v.rules;
  state = shown_state v.state (b.last_request + 1) (knowns (class_rules v.rules) b);
  packets = map packet_above b.opens;
  rooms = b.rooms;
  submitted = b.submitted;
  most = most_over v.most;
  places = v.places + room_in_all b;
  adapter = v.adapter;
}

-- ROOMS

-- the spots of all slots with no packet
abbrev pub tickets_held : List ClosedSlot → List Ticket
tickets_held [] = []
tickets_held (held ∷ rest) = tickets_of held.parts ++ tickets_held rest

-- the spots of the open requests
abbrev pub tickets_open : List Opened → List Ticket
tickets_open [] = []
tickets_open (o ∷ os) = tickets_of o.parts ++ tickets_open os

-- all rooms below
abbrev pub tickets : TableView → List Ticket
tickets b = tickets_held b.held ++ tickets_open (all_open b)

abbrev pub request_of_part : Part → Request
request_of_part part = part.request

-- a request that the class driver takes, with its parts as it cuts them
pub record IsCut (rules : Rules) (r : Request) (parts : List Part) : Type 0 where
  pub bounded : IsBounded rules r
  pub parts_are : map request_of_part parts ≡ requests_for rules.max_transfer r

abbrev pub IsHeldCut : Rules → ClosedSlot → Type 0
IsHeldCut rules held = IsCut rules held.request held.parts

abbrev pub IsOpenCut : Rules → Opened → Type 0
IsOpenCut rules o = IsCut rules o.request o.parts

-- a part that can be sent for the first time
abbrev pub IsReadyBy : Progress → Type 0
IsReadyBy (Ready place) = ⊤
IsReadyBy (Below number spot) = ⊥
IsReadyBy (HasEnded ended) = ⊥

abbrev pub IsReadyPart : Part → Type 0
IsReadyPart part = (part.restarts ≡ 0) × IsReadyBy part.progress

-- PARTS BELOW

abbrev pub IsAskedBy : Rules → List OpenRequest → Request → Progress → Type 0
IsAskedBy rules requests r (Ready place) = ⊤
IsAskedBy rules requests r (Below number spot) = All (AsksUnder rules r number) requests
IsAskedBy rules requests r (HasEnded ended) = ⊤

-- a part that is below asks there for its own request
abbrev pub IsAsked : Rules → List OpenRequest → Part → Type 0
IsAsked rules requests part = IsAskedBy rules requests part.request part.progress

abbrev pub AreAsked : Rules → List OpenRequest → Opened → Type 0
AreAsked rules requests o = All (IsAsked rules requests) o.parts

abbrev pub IsSpottedBy : List Packet → Progress → Type 0
IsSpottedBy packets (Ready place) = ⊤
IsSpottedBy packets (Below number spot) = Any (IsAt spot number) packets
IsSpottedBy packets (HasEnded ended) = ⊤

-- the packet of a part that is below has its spot there
abbrev pub IsSpotted : List Packet → Part → Type 0
IsSpotted packets part = IsSpottedBy packets part.progress

abbrev pub AreSpotted : List Packet → Opened → Type 0
AreSpotted packets o = All (IsSpotted packets) o.parts

-- the part that each room below is for
abbrev pub AreOwned : List PartId → ℕ × Opened → Type 0
AreOwned owners e = AreOwnedFrom owners e.0 0 e.1.parts

abbrev pub WentAs : ℕ → Progress → Type 0
WentAs number (Ready place) = ⊥
WentAs number (Below own spot) = own ≡ number
WentAs number (HasEnded ended) = ⊥

-- these parts went below one after the other, by rising places: the first as the packet of this number, each later one
-- in its turn
abbrev pub WentInTurn : ℕ → List Part → Type 0
WentInTurn count [] = ⊤
WentInTurn count (part ∷ parts) = WentAs count part.progress × WentInTurn (count + 1) parts

-- BUFFERS

-- a part has its buffers before it is sent; once it has ended, a read has what it brought, a flush has brought nothing,
-- and a part that came back busy has its buffer
abbrev pub IsBufferedBy : Rules → (only : Bool) → Request → Progress → Type 0
IsBufferedBy rules only r (Ready place) = HasBuffers rules.keeps_bytes only rules.sector_size r place
IsBufferedBy rules only r (Below number spot) = ⊤
IsBufferedBy rules only r (HasEnded ended) =
    (ended.outcome ≡ Good → r.kind ≡ Read → length (payload_bytes (payload_in ended.packet)) ≡ transfer_length rules r)
    × (r.kind ≡ Flush → payload_bytes (payload_in ended.packet) ≡ [])
    × (status_by ended.outcome ≡ DeviceBusy → HoldsData (transfer_length rules r) (payload_in ended.packet))

abbrev pub IsBuffered : Rules → (only : Bool) → Part → Type 0
IsBuffered rules only part = IsBufferedBy rules only part.request part.progress

abbrev pub IsWrittenBy : Rules → Request → List ℕ → Request → Progress → Type 0
IsWrittenBy rules r bytes part (Ready place) = ⊤
IsWrittenBy rules r bytes part (Below number spot) = ⊤
IsWrittenBy rules r bytes part (HasEnded ended) = part.kind ≡ Write
    → (take (transfer_length rules part) (payload_bytes (payload_in ended.packet))
    ≡ slice_range bytes (bytes_from rules.sector_size r part)
    (bytes_from rules.sector_size r part + transfer_length rules part))
    × (length (payload_bytes (payload_in ended.packet)) ≡ transfer_length rules part)

-- a part of a write took along its own bytes of the request's, and they came back with it
abbrev pub IsWritten : Rules → Opened → Part → Type 0
IsWritten rules o part = IsWrittenBy rules o.request (payload_bytes o.irp.payload) part.request part.progress

-- WHY A PART ENDED WITH NO SUCCESS, as long as its request is open

abbrev pub IsCauseBy : (cancelled removing : Bool) (busy : ℕ) → Progress → Type 0
IsCauseBy cancelled removing busy (Ready place) = ⊤
IsCauseBy cancelled removing busy (Below number spot) = ⊤
IsCauseBy cancelled removing busy (HasEnded ended) = IsCause cancelled removing busy ended.outcome

-- each part of the request that ended has its cause
abbrev pub HaveCauses : Rules → Bool → ℕ × Opened → Type 0
HaveCauses rules removing e =
    All (λ (part : Part). IsCauseBy e.1.irp.cancelled removing (noted_busy (map (note rules) e.1.parts)) part.progress)
    e.1.parts

-- ROOMS IN HAND, AND OPEN REQUESTS

-- a slot with no packet has its parts as the class driver cuts them, each of which can be sent; or none any more
pub record IsHeld (rules : Rules) (owners : List PartId) (held : ClosedSlot) : Type 0 where
  pub cut : is_whole held.parts ≡ true → IsHeldCut rules held
  pub buffered : All (IsBuffered rules (goes_whole rules.max_transfer held.request)) held.parts
  pub owned : AreOwnedFrom owners held.slot 0 held.parts
  pub ready : All IsReadyPart held.parts

-- an open request is cut by the rules too, and each of its parts was sent
pub record IsOpen (rules : Rules) (owners : List PartId) (e : ℕ × Opened) : Type 0 where
  pub cut : IsOpenCut rules e.1
  pub carries : Carries false rules e.1.request e.1.irp.payload
  pub sent : All WasSent e.1.parts
  pub buffered : All (IsBuffered rules (goes_whole rules.max_transfer e.1.request)) e.1.parts
  pub written : All (IsWritten rules e.1) e.1.parts
  pub owned : AreOwned owners e
  pub lent : e.1.lent ≡ goes_whole rules.max_transfer e.1.request
  pub restarts : e.1.restarts ≡ restarts_of e.1.parts
  pub few : e.1.restarts ≤ 16
  pub unfinished : e.1.unfinished ≡ unfinished_of e.1.parts

-- IN ORDER

-- what the class driver keeps by itself
pub record AreKept (rules : Rules) (b : TableView) : Type 0 where
  pub sizes : AreSizes b.sizes rules
  pub in_hand : All (IsHeld rules b.owners) b.held
  pub opens : All (IsOpen rules b.owners) b.opens
  pub ended : IsPermutation b.ended (ended_in b.opens)
  pub places : length b.held + length b.opens ≤ b.ended_places
  pub causes : All (HaveCauses rules b.removing) b.opens
  -- how many packets were sent below, and may still be sent again
  pub budget : b.next_packet + restarts_left b.opens + b.submitted ≤ b.submitted * 2 ^ 17 + 1

-- what the class driver keeps between its parts and their packets below
pub record AreBelow (v : DeviceView) (b : TableView) : Type 0 where
  pub removing : b.removing ≡ v.state.removing
  pub next_number : v.state.next_request ≤ b.next_packet
  pub sent : v.submitted < b.next_packet
  pub submitted : b.submitted ≤ most_over v.most
  pub asked : All (AreAsked (class_rules v.rules) v.state.requests) (all_open b)
  pub spotted : All (AreSpotted v.packets) (all_open b)
  -- the packets below are the class driver's own
  pub topmost : All IsTopmost v.packets
  -- each open request has a place, and each part that is not below has ended
  pub some : All (HasSome (class_rules v.rules)) (knowns (class_rules v.rules) b)
  pub over : All (IsOver 17 v.state.removing) (knowns (class_rules v.rules) b)

-- the coupling of what the class driver knows with what the layer below shows
pub record IsCoupled (v : DeviceView) (b : TableView) : Type 0 where
  pub j : Joint
  pub same : IsSame (below j) v.state
  pub knows : IsPermutation (map known_of j.divided) (knowns (class_rules v.rules) b)
  pub next_above : j.next_above ≡ b.last_request + 1
  pub keeps : Keeps (class_rules v.rules) j

-- what holds between calls; the rooms below that are in the class driver's hands are out there
pub record IsInHand (v : DeviceView) (b : TableView) : Type 0 where
  pub port : IsPort v.rules
  pub sound : IsSound v.state
  pub counted : AreCounted v.rules v.state
  pub coupled : IsCoupled v b
  pub rooms_out : AllOut v (tickets b)
  -- no packet that has ended waits below
  pub unfinished : All (AwaitsRestartIfEnded v.rules v.state) v.state.requests
  pub settled : Settled v.rules v.state
  pub kept : AreKept (class_rules v.rules) b
  pub below : AreBelow v b
  pub orderly : IsOrderly (view_of v b)

-- what holds between calls, over a layer of which the class driver knows what it takes
pub record IsDriver (takes_srb : Bool) (stack_size : ℕ) (v : DeviceView) (b : TableView) : Type 0 where
  pub takes : TakesParts takes_srb stack_size
  pub in_hand : IsInHand v b
