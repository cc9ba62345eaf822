-- What each call does to the table.
use Rattle.std.specs.Prelude.{◌≡◌, ◌<◌, ◌≤◌, ℕ, ◌+◌, ◌-◌, ◌*◌, ◌^◌, ◌==◌, ◌&&◌, not, Bool, true, false, List, [], ◌∷◌}
use Rattle.std.specs.Prelude.{◌++◌, IsFalse, IsPermutation, Some, None, length, slice_get, slice_set}
use Rattle.std.specs.Prelude.{slice_range, if◌then◌else◌}
use Rattle.ntstatus.specs.declared.NtStatus.TheVariants.{Success}
use Rattle.irp.specs.declared.Irp.{Irp}
use Rattle.irp.specs.declared.Payload.{Payload}
use Rattle.irp.specs.declared.Payload.TheVariants.{Buffer, Srb as Packed, Sent as AtAdapter}
use Rattle.irp.specs.Climb.{above as locations_above}
use Rattle.device.specs.declared.climbing.Climb.{Climb}
use Rattle.device.specs.Climbing.{Climbs, BringsRoutine}
use Rattle.irp.specs.Packet.{cancel_routine_of}
use Rattle.srb.specs.declared.Kind.TheVariants.{Read, Write}
use Rattle.machine.specs.declared.Request.{Request}
use Rattle.machine.specs.Rules.{Rules, as_client}
use Rattle.machine.specs.Answering.{information}
use Rattle.device.specs.View.{Carries, AsksInLocation, payload_bytes, whole_for}
use Rattle.device.specs.Served.{SetsRoom}
use Rattle.class_disk.specs.declared.Sizes.{Sizes}
use Rattle.class_disk.specs.declared.parts.Part.{Part}
use Rattle.class_disk.specs.declared.parts.Place.{Place}
use Rattle.class_disk.specs.declared.parts.Ended.{Ended}
use Rattle.class_disk.specs.declared.parts.TransferPacket.{TransferPacket}
use Rattle.class_disk.specs.declared.parts.Progress.TheVariants.{Ready, Below, Ended as HasEnded}
use Rattle.class_disk.specs.declared.requests.Places.{Places}
use Rattle.class_disk.specs.declared.requests.Slot.{Slot}
use Rattle.class_disk.specs.declared.requests.Slot.TheVariants.{Reserved, Open}
use Rattle.class_disk.specs.inside.Blocks.{FitsBlock, data_length, AreSizes, IsOwnPacket}
use Rattle.class_disk.specs.inside.Parts.{IsBufferOf, own_length, HasBuffers, payload_in, given_by, AreLeft, joined_of}
use Rattle.class_disk.specs.inside.Parts.{lowest_status}
use Rattle.class_disk.specs.inside.TableView.{Opened, TableView, ClosedSlot, is_whole, reserved_for, open_at, put_at}

-- where the bytes of a part begin among those of its request
abbrev pub bytes_from : ℕ → Request → Request → ℕ
bytes_from sector_size r part = (part.extent.first - r.extent.first) * sector_size

-- ONE REQUEST

-- a request with its packet, as it is taken in
abbrev pub new_opened : Irp → Request → List Part → Opened
new_opened irp request parts = record {
  irp = irp;
  request = request;
  parts = parts;
  restarts = 0;
  unfinished = length parts;
  lent = false;
}

-- the request with another part at this place
abbrev pub with_part : ℕ → Part → Opened → Opened
with_part k part o = record o { parts = slice_set o.parts k part }

-- the part, in a packet below
abbrev pub sent_part : ℕ → ℕ → Part → Part
sent_part number spot part = record part { progress = Below number spot }

-- the request, with a part sent at this place: the only one takes the request's buffer along
abbrev pub sent_opened : ℕ → Part → Opened → Opened
sent_opened k part o = record (with_part k part o) { lent = length o.parts == 1 }

-- the part, ended
abbrev pub ended_part : Ended → Part → Part
ended_part ended part = record part { progress = HasEnded ended }

-- a part that can be sent
pub record CanSend (sizes : Sizes) (o : Opened) (part : Part) (place : Place) : Type 0 where
  pub ready : part.progress ≡ Ready place
  pub fits : FitsBlock part.request
  pub volume : part.request.volume ≡ 0
  pub small : part.request.extent.count * sizes.sector_size < 2 ^ 64
  pub behind : o.request.extent.first ≤ part.request.extent.first
  pub inside : part.request.kind ≡ Write
      → bytes_from sizes.sector_size o.request part.request + data_length sizes.sector_size part.request
      ≤ length (payload_bytes o.irp.payload)
  pub buffers : HasBuffers sizes.keeps_bytes (length o.parts == 1) sizes.sector_size part.request place
  -- the only part is all of its request
  pub whole : length o.parts ≡ 1 → part.request ≡ o.request
  pub long : length (payload_bytes o.irp.payload) ≡ data_length sizes.sector_size o.request

-- a part with this buffer of its own can take its data from the request's buffer
pub record CanTake (sizes : Sizes) (o : Opened) (part : Request) (own : List ℕ) (capacity : ℕ) : Type 0 where
  pub small : part.extent.count * sizes.sector_size < 2 ^ 64
  pub behind : o.request.extent.first ≤ part.extent.first
  pub inside : part.kind ≡ Write
      → bytes_from sizes.sector_size o.request part + data_length sizes.sector_size part
      ≤ length (payload_bytes o.irp.payload)
  pub buffer : IsBufferOf part.kind own capacity (own_length (length o.parts == 1) sizes.sector_size part)
  pub whole : length o.parts ≡ 1 → part ≡ o.request
  pub long : length (payload_bytes o.irp.payload) ≡ data_length sizes.sector_size o.request
  pub carries : (bytes : List ℕ) × (o.irp.payload ≡ Buffer bytes)
  pub here : o.lent ≡ false

-- part k can be sent
pub record IsReadyAt (sizes : Sizes) (o : Opened) (k : ℕ) : Type 0 where
  pub part : Part
  pub place : Place
  pub is_there : slice_get o.parts k ≡ Some part
  pub can : CanSend sizes o part place
  pub carries : (bytes : List ℕ) × (o.irp.payload ≡ Buffer bytes)
  pub here : o.lent ≡ false

-- the data that a part takes along are as long as it asks for; a write's are its own bytes of the request's
pub record IsDataOf (sector_size : ℕ) (whole : List ℕ) (r part : Request) (bytes : List ℕ) : Type 0 where
  pub long : length bytes ≡ data_length sector_size part
  pub brings : part.kind ≡ Write
      → bytes ≡ slice_range whole (bytes_from sector_size r part)
      (bytes_from sector_size r part + data_length sector_size part)

-- part k goes below in a packet of this number
pub record SendsAs (sizes : Sizes) (o : Opened) (k number : ℕ) (part : Part) (place : Place)
    (packet : TransferPacket) (o' : Opened) : Type 0 where
  pub payload : Payload
  pub own : IsOwnPacket number part.request payload packet.irp.value
  pub asks : AsksInLocation true part.request packet.irp.value
  pub carries : (rules : Rules) → AreSizes sizes rules → Carries true rules part.request payload
  -- a write takes its own bytes along
  pub brings : IsDataOf sizes.sector_size (payload_bytes o.irp.payload) o.request part.request (payload_bytes payload)
  pub room : packet.room ≡ place.packet.room
  pub after : o' ≡ sent_opened k (sent_part number place.packet.room.spot part) o

-- the part, in a packet below again
abbrev pub again_part : ℕ → ℕ → Part → Part
again_part number spot part = record part { restarts = part.restarts + 1; progress = Below number spot }

-- part k goes below again
pub record SendsAgain (o : Opened) (k number : ℕ)
    (packet : TransferPacket) (part : Part) (packet' : TransferPacket) (o' : Opened) : Type 0 where
  pub own : IsOwnPacket number part.request (payload_in packet) packet'.irp.value
  pub asks : AsksInLocation true part.request packet'.irp.value
  pub room : packet'.room ≡ packet.room
  pub after : o' ≡ record (with_part k (again_part number packet.room.spot part) o) { restarts = o.restarts + 1 }

-- the request, with part k ended
abbrev pub ended_at : ℕ → Ended → Part → Opened → Opened
ended_at k ended part o = record (with_part k (ended_part ended part) o) { unfinished = o.unfinished - 1 }

-- a read that succeeds brings its bytes, by their places
abbrev pub joined_up : (joins : Bool) → Payload → List Part → Payload
joined_up true (Buffer bytes) parts = Buffer (joined_of parts)
joined_up true (Packed srb) parts = Packed srb
joined_up true AtAdapter parts = AtAdapter
joined_up false payload parts = payload

-- what came back with the only part
abbrev pub given_up : List Part → Payload
given_up [] = AtAdapter
given_up (part ∷ parts) = given_by part.progress

-- what a packet carries up: the buffer that was lent, or its own
abbrev pub payload_up : (lent joins : Bool) → Payload → List Part → Payload
payload_up true joins payload parts = given_up parts
payload_up false joins payload parts = joined_up joins payload parts

-- the packet of a request that has ended goes up, and leaves its parts
pub record Completes (sizes : Sizes) (o : Opened) (climb : Climb) (parts : List Part) : Type 0 where
  pub joins : Bool
  pub informed : ℕ
  pub joins_if : joins ≡ true → (o.request.kind ≡ Read) × (lowest_status o.parts ≡ Success)
  pub joins_then : o.request.kind ≡ Read → lowest_status o.parts ≡ Success → joins ≡ true
  pub informs : (rules : Rules) → rules.sector_size ≡ sizes.sector_size → informed
      ≡ information (as_client rules o.request []) (lowest_status o.parts)
  pub climbs : Climbs (locations_above o.irp) o.irp.number o.irp.cancelled (lowest_status o.parts) informed
      (payload_up o.lent joins o.irp.payload o.parts) climb
  pub brings_routine : BringsRoutine (cancel_routine_of o.irp) climb
  pub left : AreLeft o.parts parts

-- THE TABLE

-- no request is open, and there are no slots, nor room for any
abbrev pub empty_books : Sizes → TableView
empty_books sizes = record {
  sizes = sizes;
  opens = [];
  held = [];
  rooms = [];
  owners = [];
  ended = [];
  ended_places = 0;
  slot_places = 0;
  owner_places = 0;
  last_request = 0;
  next_packet = 1;
  submitted = 0;
  removing = false;
}

-- a slot that was not there is reserved
pub record AddsSlot (old : TableView) (held : ClosedSlot) (new : TableView) : Type 0 where
  pub more : IsPermutation new.held (held ∷ old.held)
  pub room : SetsRoom old.rooms held.slot None (Some (reserved_for held)) new.rooms
  pub after : new ≡ record old { held = new.held; rooms = new.rooms }

-- no slot is added; there may be room for more, and the list of the ended has no less
pub record AddsNoSlot (old new : TableView) : Type 0 where
  pub places : old.ended_places ≤ new.ended_places
  pub after : new ≡ record old { ended_places = new.ended_places; slot_places = new.slot_places }

-- a slot with no packet is given up, and what it had is this
pub record RemovesSlot (old : TableView) (slot : ℕ) (places : Places) (new : TableView) : Type 0 where
  pub held : ClosedSlot
  pub slot_is : held.slot ≡ slot
  pub request : places.request ≡ held.request
  pub parts : places.parts.items ≡ held.parts
  pub fewer : IsPermutation old.held (held ∷ new.held)
  pub room : SetsRoom old.rooms slot (Some (reserved_for held)) None new.rooms
  pub after : new ≡ record old { held = new.held; rooms = new.rooms }

-- a packet comes to a slot that is reserved
pub record OpensAt (old : TableView) (slot : ℕ) (irp : Irp) (new : TableView) : Type 0 where
  pub held : ClosedSlot
  pub slot_is : held.slot ≡ slot
  pub whole : is_whole held.parts ≡ true
  pub fewer : IsPermutation old.held (held ∷ new.held)
  pub room : SetsRoom old.rooms slot (Some (whole_for held.request)) None new.rooms
  pub opens : IsPermutation new.opens ((slot, new_opened irp held.request held.parts) ∷ old.opens)
  pub is_open : open_at slot new.opens ≡ Some (new_opened irp held.request held.parts)
  pub after : new
      ≡ record old {
        held = new.held;
        rooms = new.rooms;
        opens = new.opens;
        last_request = irp.number;
        submitted = old.submitted + 1;
      }

-- part k of the open request in a slot
pub record IsPartAt (b : TableView) (slot k : ℕ) (part : Part) : Type 0 where
  pub o : Opened
  pub is_open : open_at slot b.opens ≡ Some o
  pub is_there : slice_get o.parts k ≡ Some part

-- a packet can have a number
pub record CanNumber (b : TableView) : Type 0 where
  pub count : b.next_packet < 2 ^ 80

-- a part goes below for the first time
pub record SendsPart (old : TableView) (slot k : ℕ) (o : Opened) (part : Part) (place : Place)
    (packet : TransferPacket) (new : TableView) : Type 0 where
  pub o' : Opened
  pub sends : SendsAs old.sizes o k old.next_packet part place packet o'
  pub after : new ≡ record old { opens = put_at slot o' old.opens; next_packet = old.next_packet + 1 }

-- a part goes below again
pub record SendsPartAgain (old : TableView) (slot k : ℕ) (packet : TransferPacket)
    (o : Opened) (part : Part) (packet' : TransferPacket) (new : TableView) : Type 0 where
  pub o' : Opened
  pub sends : SendsAgain o k old.next_packet packet part packet' o'
  pub after : new ≡ record old { opens = put_at slot o' old.opens; next_packet = old.next_packet + 1 }

-- the table once a part has ended; a request ends with its last part
abbrev pub ended_books : ℕ → Opened → TableView → TableView
ended_books slot o' old = record old {
  opens = put_at slot o' old.opens;
  ended = if o'.unfinished == 0 then old.ended ++ slot ∷ [] else old.ended;
}

-- an open request of this number that is not cancelled yet
abbrev pub is_cancellable : ℕ → ℕ × Opened → Bool
is_cancellable number e = (e.1.irp.number == number) && not e.1.irp.cancelled

abbrev pub CannotCancel : ℕ → ℕ × Opened → Type 0
CannotCancel number e = IsFalse (is_cancellable number e)

-- the request, cancelled
abbrev pub cancelled_one : Opened → Opened
cancelled_one o = record o { irp = record o.irp { cancelled = true } }

-- whether what stands in a slot can be cancelled by this number
abbrev pub can_cancel : ℕ → Slot → Bool
can_cancel number (Reserved places) = false
can_cancel number (Open t) = (t.irp.value.number == number) && not t.irp.value.cancelled

-- the slot has a request of this number that is not cancelled yet
pub record CanCancelAt (b : TableView) (slot number : ℕ) : Type 0 where
  pub o : Opened
  pub is_open : open_at slot b.opens ≡ Some o
  pub can : is_cancellable number (slot, o) ≡ true

-- the slot has no such request
abbrev pub CannotCancelAt : TableView → ℕ → ℕ → Type 0
CannotCancelAt b slot number = (o : Opened) → open_at slot b.opens ≡ Some o → is_cancellable number (slot, o) ≡ false

-- the request in the slot is cancelled, and nothing else changes
pub record CancelsAtSlot (old : TableView) (slot number : ℕ) (new : TableView) : Type 0 where
  pub o : Opened
  pub is_open : open_at slot old.opens ≡ Some o
  pub can : is_cancellable number (slot, o) ≡ true
  pub after : new ≡ record old { opens = put_at slot (cancelled_one o) old.opens }

-- the slot has no request of this number that is not cancelled, and nothing changes
pub record CancelsNoneAt (old : TableView) (slot number : ℕ) (new : TableView) : Type 0 where
  pub none : CannotCancelAt old slot number
  pub same : new ≡ old

-- the request that ended first is taken out of its slot
pub record TakesEnded (old : TableView) (slot : ℕ) (o : Opened) (new : TableView) : Type 0 where
  pub front : old.ended ≡ slot ∷ new.ended
  pub is_open : open_at slot old.opens ≡ Some o
  pub opens : IsPermutation old.opens ((slot, o) ∷ new.opens)
  pub after : new ≡ record old { opens = new.opens; ended = new.ended }

-- no request has ended, and nothing changes
pub record TakesNone (old new : TableView) : Type 0 where
  pub none : old.ended ≡ []
  pub same : new ≡ old
