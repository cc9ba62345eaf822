-- What a part is.
use Rattle.std.specs.Prelude.{◌≡◌, ◌≢◌, ◌<◌, ◌≤◌, ◌⊎◌, ⊤, ℕ, ◌+◌, Bool, IsTrue, IsFalse, length, vec_capacity, List, []}
use Rattle.std.specs.Prelude.{◌∷◌, ◌++◌, Option, Some, None, if◌then◌else◌}
use Rattle.ntstatus.specs.declared.NtStatus.{NtStatus}
use Rattle.ntstatus.specs.declared.NtStatus.TheVariants.{Success, DeviceBusy, Cancelled, NoSuchDevice}
use Rattle.irp.specs.declared.Payload.{Payload}
use Rattle.irp.specs.declared.Payload.TheVariants.{Buffer, Srb as Packed, Sent as AtAdapter}
use Rattle.device.specs.View.{payload_bytes, whole_for}
use Rattle.device.specs.inside.Out.{Ticket}
use Rattle.srb.specs.declared.Kind.{Kind}
use Rattle.srb.specs.declared.Kind.TheVariants.{Read, Write, Flush}
use Rattle.machine.specs.declared.Request.{Request}
use Rattle.class_disk.specs.inside.Blocks.{data_length}
use Rattle.class_disk.specs.declared.parts.Place.{Place}
use Rattle.class_disk.specs.declared.parts.Ended.{Ended as EndedPart}
use Rattle.class_disk.specs.declared.parts.Part.{Part}
use Rattle.class_disk.specs.declared.parts.TransferPacket.{TransferPacket}
use Rattle.class_disk.specs.declared.parts.Progress.{Progress}
use Rattle.class_disk.specs.declared.parts.Progress.TheVariants.{Ready, Below, Ended}
use Rattle.class_disk.specs.declared.parts.Outcome.{Outcome}
use Rattle.class_disk.specs.declared.parts.Outcome.TheVariants.{Good, Failed, Busy, Withdrawn}
use Rattle.class_disk.specs.declared.parts.Way.{Way}
use Rattle.class_disk.specs.declared.parts.Way.TheVariants.{Returned, Unsent}

-- the status that a part gives its request
abbrev pub status_by : Outcome → NtStatus
status_by Good = Success
status_by (Failed status) = status
status_by (Busy status) = status
status_by (Withdrawn status) = status

-- the status of a part that did not succeed
abbrev pub failure_of : Outcome → Option NtStatus
failure_of Good = None
failure_of (Failed status) = Some status
failure_of (Busy status) = Some status
failure_of (Withdrawn status) = Some status

-- how a part that came back with this status ends, where it is not sent again; a busy one may end with another status
abbrev pub EndsBack : NtStatus → Outcome → Type 0
EndsBack status Good = status ≡ Success
EndsBack status (Failed failure) = (failure ≡ status) × (status ≢ Success) × (status ≢ DeviceBusy)
EndsBack status (Busy told) = status ≡ DeviceBusy
EndsBack status (Withdrawn told) = ⊥

-- how a part ended whose packet ended below in this way, with this status, and is not sent again
abbrev pub EndsAs : Way → NtStatus → Outcome → Type 0
EndsAs Returned status outcome = EndsBack status outcome
EndsAs Unsent status Good = ⊥
EndsAs Unsent status (Failed failure) = ⊥
EndsAs Unsent status (Busy told) = ⊥
EndsAs Unsent status (Withdrawn told) = told ≡ status

-- why a part that came back busy is not sent again, where its request has this many restarts; and its status
abbrev pub IsBusyFor : (cancelled removing : Bool) (restarts : ℕ) → NtStatus → Type 0
IsBusyFor cancelled removing restarts told =
    (IsTrue cancelled × (told ≡ Cancelled)) ⊎ (IsFalse cancelled × IsTrue removing × (told ≡ NoSuchDevice))
    ⊎ (IsFalse cancelled × IsFalse removing × (16 ≤ restarts) × (told ≡ DeviceBusy))

abbrev pub HasReason : (cancelled removing : Bool) (restarts : ℕ) → Outcome → Type 0
HasReason cancelled removing restarts Good = ⊤
HasReason cancelled removing restarts (Failed status) = ⊤
HasReason cancelled removing restarts (Busy told) = IsBusyFor cancelled removing restarts told
HasReason cancelled removing restarts (Withdrawn status) = ⊤

-- a part that came back busy is sent again, as long as restarts last
pub record GoesAgain (way : Way) (cancelled removing : Bool) (restarts : ℕ) (status : NtStatus) : Type 0 where
  pub came_back : way ≡ Returned
  pub busy : status ≡ DeviceBusy
  pub not_cancelled : IsFalse cancelled
  pub not_removing : IsFalse removing
  pub few : restarts < 16

-- this status where there is one, else the rest
abbrev pub status_or : Option NtStatus → NtStatus → NtStatus
status_or None rest = rest
status_or (Some status) rest = status

-- a buffer for data of this length: a read's is as long, a write's has room for them, and neither has more; a flush's
-- takes no memory
abbrev pub IsBufferOf : Kind → (items : List ℕ) (capacity long : ℕ) → Type 0
IsBufferOf Read items capacity long = (length items ≡ long) × (capacity ≡ long)
IsBufferOf Write items capacity long = (items ≡ []) × (capacity ≡ long)
IsBufferOf Flush items capacity long = (items ≡ []) × (capacity ≡ 0)

abbrev pub failure_by : Progress → Option NtStatus
failure_by (Ready place) = None
failure_by (Below number spot) = None
failure_by (Ended ended) = failure_of ended.outcome

-- the number and the spot of a part's packet below
abbrev pub below_by : Progress → Option (ℕ × ℕ)
below_by (Ready place) = None
below_by (Below number spot) = Some (number, spot)
below_by (Ended ended) = None

-- what a packet below carries
abbrev pub payload_in : TransferPacket → Payload
payload_in packet = packet.irp.value.payload

-- the bytes that a part brought
abbrev pub bytes_by : Progress → List ℕ
bytes_by (Ready place) = []
bytes_by (Below number spot) = []
bytes_by (Ended ended) = payload_bytes (payload_in ended.packet)

-- an SRB or a packet with a buffer of this many bytes
abbrev pub HoldsData : ℕ → Payload → Type 0
HoldsData long (Packed srb) = length srb.data ≡ long
HoldsData long (Buffer bytes) = length bytes ≡ long
HoldsData long AtAdapter = ⊥

-- what came back with a part, as its request's packet carries it
abbrev pub given_of : Payload → Payload
given_of (Packed srb) = Buffer srb.data
given_of (Buffer bytes) = Buffer bytes
given_of AtAdapter = AtAdapter

abbrev pub given_by : Progress → Payload
given_by (Ready place) = AtAdapter
given_by (Below number spot) = AtAdapter
given_by (Ended ended) = given_of (payload_in ended.packet)

-- a part that ended has no buffer any more, and still has its packet and its room
abbrev pub IsLeftBy : (was now : Progress) → Type 0
IsLeftBy (Ready place) now = now ≡ Ready place
IsLeftBy (Below number spot) now = now ≡ Below number spot
IsLeftBy (Ended ended) now = (left : EndedPart) × (now ≡ Ended left) × (left.packet.room ≡ ended.packet.room)

pub record IsLeft (was now : Part) : Type 0 where
  pub request : now.request ≡ was.request
  pub progress : IsLeftBy was.progress now.progress

-- these parts are left of the others, one for each
abbrev pub AreLeft : (was now : List Part) → Type 0
AreLeft [] [] = ⊤
AreLeft [] (part ∷ parts) = ⊥
AreLeft (part ∷ parts) [] = ⊥
AreLeft (part ∷ parts) (left ∷ rest) = IsLeft part left × AreLeft parts rest

-- the packet of a part that is not below
abbrev pub packet_by : Progress → Option TransferPacket
packet_by (Ready place) = Some place.packet
packet_by (Below number spot) = None
packet_by (Ended ended) = Some ended.packet

-- the room below of a packet for this request, which has all that it needs
abbrev pub ticket_for : Request → TransferPacket → Ticket
ticket_for r packet = record { spot = packet.room.spot; reserved = whole_for r }

-- the room below that a part keeps while its packet is not there
abbrev pub ticket_by : Request → Progress → List Ticket
ticket_by r (Ready place) = ticket_for r place.packet ∷ []
ticket_by r (Below number spot) = []
ticket_by r (Ended ended) = ticket_for r ended.packet ∷ []

abbrev pub tickets_of : List Part → List Ticket
tickets_of [] = []
tickets_of (part ∷ parts) = ticket_by part.request part.progress ++ tickets_of parts

abbrev pub IsHereBy : Progress → Type 0
IsHereBy (Ready place) = ⊤
IsHereBy (Below number spot) = ⊥
IsHereBy (Ended ended) = ⊤

-- the part is not below
abbrev pub IsHere : Part → Type 0
IsHere part = IsHereBy part.progress

abbrev pub IsDownBy : Progress → Type 0
IsDownBy (Ready place) = ⊥
IsDownBy (Below number spot) = ⊤
IsDownBy (Ended ended) = ⊥

-- the part's packet is below
abbrev pub IsDown : Part → Type 0
IsDown part = IsDownBy part.progress

abbrev pub WasSentBy : Progress → Type 0
WasSentBy (Ready place) = ⊥
WasSentBy (Below number spot) = ⊤
WasSentBy (Ended ended) = ⊤

-- the part was sent
abbrev pub WasSent : Part → Type 0
WasSent part = WasSentBy part.progress

-- how often parts were sent again
abbrev pub restarts_of : List Part → ℕ
restarts_of [] = 0
restarts_of (part ∷ parts) = part.restarts + restarts_of parts

abbrev pub unfinished_by : Progress → ℕ
unfinished_by (Ready place) = 1
unfinished_by (Below number spot) = 1
unfinished_by (Ended ended) = 0

-- the number of parts that have not ended
abbrev pub unfinished_of : List Part → ℕ
unfinished_of [] = 0
unfinished_of (part ∷ parts) = unfinished_by part.progress + unfinished_of parts

-- the bytes that all parts brought, in the order of their places
abbrev pub joined_of : List Part → List ℕ
joined_of [] = []
joined_of (part ∷ parts) = bytes_by part.progress ++ joined_of parts

-- the status of the lowest part that did not succeed; success where all did
abbrev pub lowest_status : List Part → NtStatus
lowest_status [] = Success
lowest_status (part ∷ parts) = status_or (failure_by part.progress) (lowest_status parts)

-- the length of a part's own buffer: 0 where it is the only part, which takes its request's buffer
abbrev pub own_length : (only : Bool) (sector_size : ℕ) → Request → ℕ
own_length only sector_size r = if only then 0 else data_length sector_size r

-- the buffers of a part before it is sent, whether or not it is the only one
pub record HasBuffers (keeps only : Bool) (sector_size : ℕ) (r : Request) (place : Place) : Type 0 where
  pub buffer : IsBufferOf r.kind place.«data».items (vec_capacity place.«data») (own_length only sector_size r)
  -- room for just as many bytes as its data, where labels keep their bytes
  pub for_label : IsTrue keeps → place.for_label ≡ data_length sector_size r
