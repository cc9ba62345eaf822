-- In the middle of a call: what holds between one packet below and the next.
use Rattle.std.specs.Prelude.{◌≡◌, ◌≢◌, ◌<◌, ◌≤◌, ℕ, ◌+◌, ◌*◌, ◌^◌, length, take, drop, true, false, List, []}
use Rattle.std.specs.Prelude.{◌∷◌, ◌++◌, ◌==◌, Bool, Option, Some, None, map, slice_get, IsFalse, All, Contains}
use Rattle.std.specs.Prelude.{IsPermutation, if◌then◌else◌}
use Rattle.adapter.specs.View.{MovesByAll}
use Rattle.srb.specs.declared.DeviceLabel.{DeviceLabel}
use Rattle.machine.specs.declared.Request.{Request}
use Rattle.machine.specs.Rules.{Rules}
use Rattle.machine.specs.State.{OpenRequest, State, IsSame}
use Rattle.machine.specs.Marks.{AreCounted}
use Rattle.machine.specs.Sending.{IsStart}
use Rattle.machine.specs.Step.{Run, as_label}
use Rattle.device.specs.View.{DeviceView, Carries, IsBounded, packet_of, packet_spot, IsTopmost, IsOrderly}
use Rattle.device.specs.View.{whole_for}
use Rattle.device.specs.inside.Out.{Ticket, ticket_spot}
use Rattle.class_disk.specs.inside.Rooms.{AllOut}
use Rattle.device.specs.Served.{SamePlaces, Reserves, Submits, StaysOpen, HandsUpNone, CancelsAt}
use Rattle.class_disk.specs.declared.parts.Part.{Part}
use Rattle.class_disk.specs.declared.parts.Place.{Place}
use Rattle.class_disk.specs.declared.parts.Progress.TheVariants.{Ready}
use Rattle.class_disk.specs.declared.parts.TransferPacket.{TransferPacket}
use Rattle.class_disk.specs.declared.parts.PartId.{PartId}
use Rattle.class_disk.specs.declared.parts.Way.{Way}
use Rattle.class_disk.specs.declared.parts.Way.TheVariants.{Unsent}
use Rattle.class_disk.specs.inside.Joint.{Known, Joint, known_of, below, above}
use Rattle.class_disk.specs.inside.PortRules.{below_rules}
use Rattle.class_disk.specs.inside.Invariant.{IsSound, Keeps, EndedAre, EndedBy, IsNothing, IsOver, HasSome}
use Rattle.class_disk.specs.Shown.{class_rules, IsPort}
use Rattle.class_disk.specs.declared.Sizes.{Sizes}
use Rattle.class_disk.specs.inside.Blocks.{IsCuttable, part_count_of, part_request_of, goes_whole, AreSizes}
use Rattle.class_disk.specs.inside.Parts.{HasBuffers, payload_in, ticket_for, tickets_of, IsDown, below_by}
use Rattle.class_disk.specs.inside.Parts.{restarts_of}
use Rattle.class_disk.specs.inside.TableView.{Opened, TableView, opened, ended_in, all_open, restarts_left, open_at}
use Rattle.class_disk.specs.inside.TableCalls.{IsReadyAt, CanNumber, SendsPart, SendsPartAgain}
use Rattle.class_disk.specs.inside.Driver.{view_of, known, knowns, tickets, packet_above, IsReadyPart, IsHeld, IsOpen}
use Rattle.class_disk.specs.inside.Driver.{IsOpenCut, IsBuffered, IsWritten, HaveCauses, AreOwned, WentInTurn}
use Rattle.class_disk.specs.inside.Driver.{AreAsked, AreSpotted, AreKept, AreBelow}
use Rattle.class_disk.specs.Opening.{most_over}
use Rattle.class_disk.specs.inside.Owners.{owner_at, IsOwner, AreOwnedFrom}

-- both machines, and what the class driver knows, once these labels have come since the first state above
pub record IsTaking (rules : Rules) (first : State) (labels : List DeviceLabel)
    (s : State) (ks : List Known) : Type 0 where
  pub j : Joint
  pub same : IsSame (below j) s
  pub knows : IsPermutation (map known_of j.divided) ks
  pub keeps : Keeps rules j
  pub sound : IsSound s
  pub counted : AreCounted (below_rules rules) s
  pub next_above : j.next_above ≡ first.next_request
  pub run : Run rules first (map as_label labels) (above j)

-- WHAT WAITS TO BE TAKEN

-- some starts came behind the first labels, and the rest of the class driver stayed as it was
pub record GoesOn (v : DeviceView) (b : TableView) (starts : List DeviceLabel) (v' : DeviceView) (b' : TableView) : Type 0 where
  pub only_starts : All IsStart starts
  pub adapter : MovesByAll v.adapter starts v'.adapter
  pub same_rules : v'.rules ≡ v.rules
  pub same_most : v'.most ≡ v.most
  pub same_places : SamePlaces (view_of v b) (view_of v' b')
  pub same_last : b'.last_request ≡ b.last_request
  pub same_submitted : b'.submitted ≡ b.submitted
  pub same_packets : map packet_above b'.opens ≡ map packet_above b.opens
  pub same_rooms : b'.rooms ≡ b.rooms

-- packets that ended are taken one by one, and each part is noted, or goes down again. All that have ended below and
-- are not taken yet are like this: sent, after a return; never sent, after a cancellation or a removal; none, after a
-- submission
pub record IsMidway (Is : OpenRequest → Type 0) (first : State) (labels : List DeviceLabel)
    (v : DeviceView) (b : TableView) : Type 0 where
  pub port : IsPort v.rules
  pub taking : IsTaking (class_rules v.rules) first labels v.state (knowns (class_rules v.rules) b)
  pub rooms_out : AllOut v (tickets b)
  pub kept : AreKept (class_rules v.rules) b
  pub below : AreBelow v b
  pub ended : EndedAre Is v.rules v.state

-- one packet is taken: if the class driver was midway before, it still is after some more starts; behind those that
-- ended unsent nothing starts
pub record TakesOne (way : Way) (v : DeviceView) (b : TableView)
    (v' : DeviceView) (b' : TableView) : Type 0 where
  pub starts : List DeviceLabel
  pub goes_on : GoesOn v b starts v' b'
  pub still : way ≡ Unsent → starts ≡ []
  -- each packet that is taken is one fewer below, or uses up a restart
  pub fewer : length v'.packets + restarts_left b'.opens < length v.packets + restarts_left b.opens
  pub stays : (first : State) (labels : List DeviceLabel) → IsMidway (EndedBy way) first labels v b
      → IsMidway (EndedBy way) first (labels ++ starts) v' b'

-- no request has ended, and nothing changes
pub record FindsNone (v : DeviceView) (b : TableView) (v' : DeviceView) (b' : TableView) : Type 0 where
  pub none : HandsUpNone v v'
  pub same : b' ≡ b

-- all packets that ended are taken, and none is left
pub record TakesAll (way : Way) (v : DeviceView) (b : TableView)
    (v' : DeviceView) (b' : TableView) : Type 0 where
  pub starts : List DeviceLabel
  pub goes_on : GoesOn v b starts v' b'
  pub still : way ≡ Unsent → starts ≡ []
  pub stays : (first : State) (labels : List DeviceLabel) → IsMidway (EndedBy way) first labels v b
      → IsMidway (EndedBy way) first (labels ++ starts) v' b'
  pub none : HandsUpNone v' v'

-- PARTS GO DOWN

-- a part of the open request goes below for the first time
pub record SendsDown (v : DeviceView) (b : TableView) (slot k : ℕ)
    (o : Opened) (part : Part) (place : Place) (v' : DeviceView) (b' : TableView) : Type 0 where
  pub packet : TransferPacket
  pub sends : SendsPart b slot k o part place packet b'
  pub submits : Submits v (packet_of packet.irp.value place.packet.room.spot) part.request packet.irp.value.payload v'
  pub ordered : IsOrderly v'

-- a part goes below again
pub record SendsDownAgain (v : DeviceView) (b : TableView) (slot k : ℕ) (packet : TransferPacket)
    (o : Opened) (part : Part) (v' : DeviceView) (b' : TableView) : Type 0 where
  pub packet' : TransferPacket
  pub sends : SendsPartAgain b slot k packet o part packet' b'
  pub submits : Submits v (packet_of packet'.irp.value packet.room.spot) part.request (payload_in packet) v'
  pub ordered : IsOrderly v'

-- PARTS ARE MADE

-- a request can be cut, and each part of it can be asked of the layer below
pub record CanCut (sizes : Sizes) (rules : Rules) (r : Request) : Type 0 where
  pub sizes_are : AreSizes sizes rules
  pub cuttable : IsCuttable sizes.max_transfer r
  pub count : part_count_of sizes.max_transfer r ≤ 2 ^ 16
  pub bounded : (k : ℕ) → k < part_count_of sizes.max_transfer r
      → IsBounded rules (part_request_of sizes.max_transfer r k)
  pub small : (k : ℕ) → k < part_count_of sizes.max_transfer r
      → (part_request_of sizes.max_transfer r k).extent.count * sizes.sector_size < 2 ^ 64

-- a part of this request that can be sent, for which nothing was sent yet
pub record IsNewPart (keeps only : Bool) (sector_size : ℕ) (request : Request) (part : Part) : Type 0 where
  pub asks : part.request ≡ request
  pub first : part.restarts ≡ 0
  pub place : Place
  pub is_ready : part.progress ≡ Ready place
  pub buffers : HasBuffers keeps only sector_size request place

-- the first parts of a request, this many, each of which can be sent
pub record AreNewParts (sizes : Sizes) (r : Request) (count : ℕ) (parts : List Part) : Type 0 where
  pub long : length parts ≡ count
  pub are : (k : ℕ) (part : Part) → slice_get parts k ≡ Some part
      → IsNewPart sizes.keeps_bytes (goes_whole sizes.max_transfer r) sizes.sector_size (part_request_of sizes.max_transfer r k) part

-- only what is reserved changes
abbrev pub ChangesRooms : DeviceView → DeviceView → Type 0
ChangesRooms old new = new ≡ record old { rooms = new.rooms }

-- the spot has the owner that it had, if it had one
abbrev pub StaysOwned : (old new : List PartId) → ℕ → Type 0
StaysOwned old new spot = spot < length old → owner_at new spot ≡ owner_at old spot

-- rooms were made below: all rooms in hand and all packets below are still the same parts'
pub record StaysTaken (v : DeviceView) (owners : List PartId) (v' : DeviceView) (owners' : List PartId) : Type 0 where
  pub reserves : Reserves v v'
  pub longer : length owners ≤ length owners'
  pub held : (others : List Ticket) → AllOut v others → All (StaysOwned owners owners') (map ticket_spot others)
  pub below : All (StaysOwned owners owners') (map packet_spot v.packets)

-- no room is made
pub record MakesNone (v : DeviceView) (owners : List PartId) (v' : DeviceView) (owners' : List PartId) : Type 0 where
  pub stays : StaysTaken v owners v' owners'
  pub out : (others : List Ticket) → AllOut v others → AllOut v' others

-- a room is made for this request, and it is this part's
pub record MakesRoom
    (v : DeviceView) (owners : List PartId) (id : PartId) (request : Request) (spot : ℕ)
    (v' : DeviceView) (owners' : List PartId) : Type 0 where
  pub stays : StaysTaken v owners v' owners'
  pub out : (others : List Ticket) → AllOut v others
      → AllOut v' (record { spot = spot; reserved = whole_for request } ∷ others)
  pub owned : IsOwner owners' spot id.slot id.part

-- parts are made for a request in a slot, the first of them at this place; their rooms are out below, beside the others
pub record MakesParts (v : DeviceView) (owners : List PartId) (slot k : ℕ) (parts : List Part)
    (v' : DeviceView) (owners' : List PartId) : Type 0 where
  pub stays : StaysTaken v owners v' owners'
  pub out : (others : List Ticket) → AllOut v others → AllOut v' (tickets_of parts ++ others)
  pub owned : AreOwnedFrom owners' slot k parts

-- WHAT A CALL BELOW ASKS FOR

-- a packet can be submitted below, with this room
pub record CanSubmit (v : DeviceView) (b : TableView)
    (packet : TransferPacket) (others : List Ticket) (request : Request) : Type 0 where
  pub rooms_out : AllOut v (ticket_for request packet ∷ others)
  pub not_removing : IsFalse v.state.removing
  pub number : v.state.next_request ≤ b.next_packet
  pub few : v.submitted < v.most
  pub can_number : CanNumber b
  pub sizes : AreSizes b.sizes v.rules

-- a part can be sent for the first time
pub record CanSendPart (v : DeviceView) (b : TableView) (slot k : ℕ) (others : List Ticket)
    (o : Opened) (part : Part) (place : Place) : Type 0 where
  pub submit : CanSubmit v b place.packet others part.request
  pub is_open : open_at slot b.opens ≡ Some o
  pub is_there : slice_get o.parts k ≡ Some part
  pub is_ready : part.progress ≡ Ready place
  pub ready_at : IsReadyAt b.sizes o k

-- a part can be sent again
pub record CanSendAgain (v : DeviceView) (b : TableView) (slot k : ℕ)
    (packet : TransferPacket) (others : List Ticket) (o : Opened) (part : Part) : Type 0 where
  pub submit : CanSubmit v b packet others part.request
  pub is_open : open_at slot b.opens ≡ Some o
  pub is_there : slice_get o.parts k ≡ Some part
  pub few_restarts : (part.restarts < 255) × (o.restarts < 255)
  pub carries : Carries true v.rules part.request (payload_in packet)

-- the packet below, where there is one, is cancelled by its spot
abbrev pub CancelsBelow : DeviceView → Option (ℕ × ℕ) → DeviceView → Type 0
CancelsBelow v None v' = v' ≡ v
CancelsBelow v (Some (number, spot)) v' = CancelsAt v spot number v'

-- the packets below of these parts are cancelled one by one
abbrev pub CancelsAll : DeviceView → List (Option (ℕ × ℕ)) → DeviceView → Type 0
CancelsAll v [] v' = v' ≡ v
CancelsAll v (packet ∷ packets) v' = (w : DeviceView) × CancelsBelow v packet w × CancelsAll w packets v'

-- the packet of a part below
abbrev pub packet_of_part : Part → Option (ℕ × ℕ)
packet_of_part part = below_by part.progress

-- A REQUEST IS OPEN, AND ITS PARTS GO DOWN ONE BY ONE

-- each part of these can be sent for the first time
abbrev pub AreReady : List Part → Type 0
AreReady parts = All IsReadyPart parts

-- the machine above has run from the first state, and the new request is open in it, with no part below yet
pub record OpeningSoFar (v : DeviceView) (b : TableView) (first : State) (labels : List DeviceLabel) : Type 0 where
  pub taking : IsTaking (class_rules v.rules) first labels v.state (knowns (class_rules v.rules) b)

-- the parts of the open request in a slot are sent up to this one, and ready from it on; all else is in order
pub record IsOpening (v : DeviceView) (b : TableView) (slot k : ℕ) : Type 0 where
  pub port : IsPort v.rules
  pub o : Opened
  pub others : List (ℕ × Opened)
  pub is_open : open_at slot b.opens ≡ Some o
  pub others_are : IsPermutation b.opens ((slot, o) ∷ others)
  pub not_cancelled : IsFalse o.irp.cancelled
  pub staying : IsFalse b.removing
  pub rooms_out : AllOut v (tickets b)
  pub ready_from : AreReady (drop k o.parts)
  pub sent : All IsDown (take k o.parts)
  -- all that is kept between calls, except that all parts of this request were sent
  pub sizes : AreSizes b.sizes (class_rules v.rules)
  pub in_hand : All (IsHeld (class_rules v.rules) b.owners) b.held
  pub opens : All (IsOpen (class_rules v.rules) b.owners) others
  pub cut : IsOpenCut (class_rules v.rules) o
  pub carries : Carries false (class_rules v.rules) o.request o.irp.payload
  pub buffered : All (IsBuffered (class_rules v.rules) (goes_whole v.rules.max_transfer o.request)) o.parts
  pub written : All (IsWritten (class_rules v.rules) o) o.parts
  pub owned : AreOwned b.owners (slot, o)
  -- the buffer goes below with the only part
  pub lent : o.lent ≡ (if k == 0 then false else goes_whole v.rules.max_transfer o.request)
  pub restarts : (o.restarts ≡ 0) × (restarts_of o.parts ≡ 0)
  pub unfinished : o.unfinished ≡ length o.parts
  pub ended : IsPermutation b.ended (ended_in b.opens)
  pub causes : All (HaveCauses (class_rules v.rules) b.removing) others
  pub places : length b.held + length b.opens ≤ b.ended_places
  -- each part that is still to be sent has a number
  pub budget : b.next_packet + length (drop k o.parts) + restarts_left b.opens + b.submitted ≤ b.submitted * 2 ^ 17 + 1
  pub next_number_is : v.state.next_request ≤ b.next_packet
  pub few : v.submitted < b.next_packet
  pub submitted : b.submitted ≤ most_over v.most
  pub removing : b.removing ≡ v.state.removing
  pub asked : All (AreAsked (class_rules v.rules) v.state.requests) (all_open b)
  pub spotted : All (AreSpotted v.packets) (all_open b)
  pub topmost : All IsTopmost v.packets
  pub some : All (HasSome (class_rules v.rules)) (knowns (class_rules v.rules) b)
  pub over : All (IsOver 17 v.state.removing) (map (known (class_rules v.rules)) (map opened others))
  -- nothing that has ended waits below
  pub none_ended : EndedAre IsNothing v.rules v.state

-- all parts of the open request in a slot are sent, by rising places: the class driver is midway after some more
-- starts, no packet that has ended waits below, and each other request is as it was, there and in the table
pub record SendsAll (first : State) (labels : List DeviceLabel)
    (v : DeviceView) (b : TableView) (slot : ℕ) (v' : DeviceView) (b' : TableView) : Type 0 where
  pub starts : List DeviceLabel
  pub goes_on : GoesOn v b starts v' b'
  pub in_turn : (o : Opened) → open_at slot b'.opens ≡ Some o → WentInTurn b.next_packet o.parts
  pub midway : IsMidway IsNothing first (labels ++ starts) v' b'
  pub others_stay : All (StaysOpen v'.state) v.state.requests
  pub table_stays : (e : ℕ × Opened) → e.0 ≢ slot → Contains b.opens e → Contains b'.opens e
