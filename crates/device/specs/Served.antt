-- What each call does to what a layer shows.
use Rattle.std.specs.Prelude.{◌≡◌, ◌≢◌, ◌⊎◌, ℕ, zero, suc, ◌+◌, ◌*◌, Bool, List, [], ◌∷◌, Option, Some, None, Result, map, filter, take, drop, length, IsTrue, IsFalse, All, Any, Contains, IsPermutation}
use Rattle.std.specs.List.Sorted.{IsStrictlyIncreasing}
use Rattle.ntstatus.specs.declared.NtStatus.{NtStatus}
use Rattle.ntstatus.specs.declared.NtStatus.TheVariants.{Success, DeviceBusy}
use Rattle.srb.specs.declared.Class.{Class}
use Rattle.srb.specs.declared.Completion.{Completion}
use Rattle.srb.specs.declared.Entry.{Entry}
use Rattle.srb.specs.declared.DeviceLabel.{DeviceLabel}
use Rattle.srb.specs.declared.DeviceLabel.TheVariants.{Start, Act, Fault, Return}
use Rattle.srb.specs.Bare.{in_memory}
use Rattle.srb.specs.Fate.{Fresh, is_fresh}
use Rattle.adapter.specs.View.{AdapterView, ReservesMore, ReservesNear as AdapterReservesNear, MovesByAll, NotesReset}
use Rattle.adapter.specs.Calls.{IsBooked}
use Rattle.adapter.specs.Booking.{Books}
use Rattle.irp.specs.declared.Payload.{Payload}
use Rattle.srb.specs.declared.Kind.TheVariants.{Read, Flush}
use Rattle.machine.specs.declared.Request.{Request}
use Rattle.machine.specs.Rules.{Rules, place_count, as_client}
use Rattle.machine.specs.State.{Mark, Done, Back, OpenRequest, Piece, State}
use Rattle.machine.specs.Calling.{Opens}
use Rattle.machine.specs.Sending.{is_started, IsStart, HasOtherTag}
use Rattle.machine.specs.Answering.{HasEnded, Answers, information}
use Rattle.machine.specs.Holding.{Cancels, Pauses, Resumes, Drains}
use Rattle.machine.specs.Settled.{Settled}
use Rattle.machine.specs.Step.{as_label, Run}
use Rattle.device.specs.declared.climbing.Climb.{Climb}
use Rattle.device.specs.Climbing.{Climbs, BringsRoutine}
use Rattle.device.specs.View.{DeviceView, Packet, Reserved, room_at, whole_for, Carries, payload_bytes, sent_bytes, sectors_asked}

-- each spot is reserved as it was
abbrev pub SameRooms : List (Option Reserved) → List (Option Reserved) → Type 0
SameRooms old new = (spot : ℕ) → room_at new spot ≡ room_at old spot

-- no table grew or shrank, so no memory was taken for one
abbrev pub SamePlaces : DeviceView → DeviceView → Type 0
SamePlaces old new = new.places ≡ old.places

-- what is reserved at one spot changes, and at no other
pub record SetsRoom (old : List (Option Reserved)) (spot : ℕ) (before after : Option Reserved)
    (new : List (Option Reserved)) : Type 0 where
  pub was : room_at old spot ≡ before
  pub is : room_at new spot ≡ after
  pub others : (other : ℕ) → other ≢ spot → room_at new other ≡ room_at old other

-- the machine and the adapter move by just these labels
pub record Moves (old : DeviceView) (labels : List DeviceLabel) (new : DeviceView) : Type 0 where
  pub same_rules : new.rules ≡ old.rules
  pub same_packets : IsPermutation new.packets old.packets
  pub same_rooms : SameRooms old.rooms new.rooms
  pub same_submitted : new.submitted ≡ old.submitted
  pub same_most : new.most ≡ old.most
  pub same_places : SamePlaces old new
  pub run : Run old.rules old.state (map as_label labels) new.state
  pub adapter : MovesByAll old.adapter labels new.adapter

-- all but the machine stays
pub record IsBeside (old new : DeviceView) : Type 0 where
  pub same_rules : new.rules ≡ old.rules
  pub same_packets : IsPermutation new.packets old.packets
  pub same_rooms : SameRooms old.rooms new.rooms
  pub same_submitted : new.submitted ≡ old.submitted
  pub same_most : new.most ≡ old.most
  pub same_places : SamePlaces old new
  pub same_adapter : new.adapter ≡ old.adapter

-- spots may change, tables may have grown, and the adapter may have reserved more; nothing else changes
pub record Reserves (old new : DeviceView) : Type 0 where
  pub same : new ≡ record old {
    rooms = new.rooms;
    places = new.places;
    adapter = record old.adapter { reserved = new.adapter.reserved };
  }
  pub adapter : ReservesMore old.adapter new.adapter

-- the packet has another spot
abbrev pub HasOtherSpot : ℕ → Packet → Type 0
HasOtherSpot spot packet = packet.spot ≢ spot

-- a spot that was vacant, and that no packet has, is reserved for the request
pub record ReservesSpot (old : DeviceView) (spot : ℕ) (request : Request) (new : DeviceView) : Type 0 where
  pub reserves : Reserves old new
  pub apart : All (HasOtherSpot spot) old.packets
  pub room : SetsRoom old.rooms spot None (Some (whole_for request)) new.rooms

-- no spot is reserved
pub record ReservesNone (old new : DeviceView) : Type 0 where
  pub reserves : Reserves old new
  pub room : SameRooms old.rooms new.rooms

-- what the adapter has reserved now was reserved before, or is in a run with a sector that the request asks for
abbrev pub ReservesNear : DeviceView → Request → DeviceView → Type 0
ReservesNear old request new = AdapterReservesNear old.adapter (sectors_asked old.rules request) new.adapter

-- a reserved spot is vacant, and nothing else changes
pub record Frees (old : DeviceView) (spot : ℕ) (new : DeviceView) : Type 0 where
  pub reserved : Reserved
  pub room : SetsRoom old.rooms spot (Some reserved) None new.rooms
  pub same : new ≡ record old { rooms = new.rooms }

-- the request is open as it is
abbrev pub StaysOpen : State → OpenRequest → Type 0
StaysOpen s o = Contains s.requests o

-- the request is open as it is, if it was started
abbrev pub StaysIfStarted : State → OpenRequest → Type 0
StaysIfStarted s o = IsTrue (is_started o) → Contains s.requests o

-- a packet is taken in at its spot: its request is opened, and then pieces are started, of no other request
pub record Submits (old : DeviceView) (packet : Packet) (request : Request) (payload : Payload)
    (new : DeviceView) : Type 0 where
  pub room : SetsRoom old.rooms packet.spot (Some (whole_for request)) None new.rooms
  pub opened : State
  pub starts : List DeviceLabel
  pub opens : Opens old.rules old.state packet.number
      (as_client old.rules request (sent_bytes request.kind payload)) opened
  pub only_starts : All IsStart starts
  pub moves : Moves (record old {
    state = opened;
    packets = packet ∷ old.packets;
    rooms = new.rooms;
    submitted = old.submitted + 1;
  }) starts new
  pub others_stay : All (StaysOpen new.state) old.state.requests

-- the piece of a tag that has done nothing yet
pub record IsFreshOn (s : State) (tag : ℕ) (piece : Piece) : Type 0 where
  pub is_out : Contains s.pieces piece
  pub is_tag : piece.tag ≡ tag
  pub is_fresh : piece.fate ≡ Fresh

-- the label is the act or the fault of this piece
abbrev pub IsActOrFault : ℕ → DeviceLabel → Type 0
IsActOrFault number (Act piece bytes) = piece ≡ number
IsActOrFault number (Fault piece) = piece ≡ number
IsActOrFault number (Start piece tag block) = ⊥
IsActOrFault number (Return piece class) = ⊥

-- the label is an act
abbrev pub IsAct : DeviceLabel → Type 0
IsAct (Act piece bytes) = Unit {0}
IsAct (Fault piece) = ⊥
IsAct (Start piece tag block) = ⊥
IsAct (Return piece class) = ⊥

-- the fresh piece of the tag acts or faults; what was booked acts
pub record ActsOrFaults (old : DeviceView) (tag : ℕ) (new : DeviceView) : Type 0 where
  pub piece : Piece
  pub label : DeviceLabel
  pub fresh : IsFreshOn old.state tag piece
  pub told : IsActOrFault piece.number label
  pub if_booked : IsBooked old.adapter tag → IsAct label
  pub moves : Moves old (label ∷ []) new

-- no fresh piece is on the tag, and nothing changes
pub record ActsNot (old : DeviceView) (tag : ℕ) (new : DeviceView) : Type 0 where
  pub none : (piece : Piece) → IsFreshOn old.state tag piece → ⊥
  pub same : new ≡ old

-- only the adapter changes by what is booked of a piece
pub record BooksPiece (old : DeviceView) (tag piece : ℕ) (what : Result Entry Completion)
    (new : DeviceView) : Type 0 where
  pub adapter : Books old.adapter tag piece what new.adapter
  pub same : new ≡ record old { adapter = new.adapter }

-- the piece of the tag comes back, and then pieces are started
pub record Finishes (old : DeviceView) (tag : ℕ) (new : DeviceView) : Type 0 where
  pub piece : Piece
  pub class : Class
  pub starts : List DeviceLabel
  pub is_out : Contains old.state.pieces piece
  pub is_tag : piece.tag ≡ tag
  pub only_starts : All IsStart starts
  pub moves : Moves old (Return piece.number class ∷ starts) new

-- no piece is on the tag, and nothing changes
pub record FinishesNot (old : DeviceView) (tag : ℕ) (new : DeviceView) : Type 0 where
  pub free : All (HasOtherTag tag) old.state.pieces
  pub same : new ≡ old

-- the piece has done nothing yet
abbrev pub is_fresh_piece : Piece → Bool
is_fresh_piece piece = is_fresh piece.fate

-- the label of the piece's fault
abbrev pub fault_of : Piece → DeviceLabel
fault_of piece = Fault piece.number

-- the tag of the piece
abbrev pub piece_tag : Piece → ℕ
piece_tag piece = piece.tag

-- each fresh piece faults, by rising tags, and then the adapter notes the reset
pub record Resets (old new : DeviceView) : Type 0 where
  pub fresh : List Piece
  pub all_faulted : AdapterView
  pub all_fresh : IsPermutation fresh (filter is_fresh_piece old.state.pieces)
  pub rising : IsStrictlyIncreasing (map piece_tag fresh)
  pub moves : Moves old (map fault_of fresh) (record new { adapter = all_faulted })
  pub noted : NotesReset all_faulted new.adapter

-- no open request of this number could be cancelled
abbrev pub NoneToCancel : State → ℕ → Type 0
NoneToCancel s number = (s' : State) → Cancels s number s' → ⊥

-- the request of this number is cancelled, where it is open and not cancelled yet, and no label is recorded
pub record CancelsIfOpen (old : DeviceView) (number : ℕ) (new : DeviceView) : Type 0 where
  pub one_of : (Cancels old.state number new.state × IsBeside old new) ⊎ (NoneToCancel old.state number × (new ≡ old))

-- the packet with this spot and this number
pub record IsAt (spot number : ℕ) (packet : Packet) : Type 0 where
  pub is_spot : packet.spot ≡ spot
  pub is_number : packet.number ≡ number

-- the packet has another number
abbrev pub HasOtherNumber : ℕ → Packet → Type 0
HasOtherNumber number packet = packet.number ≢ number

-- a packet is cancelled by its spot and its number as by its number alone; where no packet has the number, nothing
-- changes
pub record CancelsAt (old : DeviceView) (spot number : ℕ) (new : DeviceView) : Type 0 where
  pub there : Any (IsAt spot number) old.packets → CancelsIfOpen old number new
  pub gone : All (HasOtherNumber number) old.packets → new ≡ old
  -- with a spot of another packet it is cancelled or nothing changes
  pub either : (Cancels old.state number new.state × IsBeside old new) ⊎ (new ≡ old)

-- the layer is removed, and no label is recorded
pub record DrainsAll (old new : DeviceView) : Type 0 where
  pub drains : Drains old.rules old.state new.state
  pub beside : IsBeside old new

-- the layer is paused, and no label is recorded
pub record PausesAll (old new : DeviceView) : Type 0 where
  pub pauses : Pauses old.rules old.state new.state
  pub beside : IsBeside old new

-- the layer's pause ends, and then pieces are started
pub record ResumesAll (old new : DeviceView) : Type 0 where
  pub resumed : State
  pub starts : List DeviceLabel
  pub resumes : Resumes old.state resumed
  pub only_starts : All IsStart starts
  pub moves : Moves (record old { state = resumed }) starts new

-- the place came back busy
abbrev pub IsBack : Mark → Type 0
IsBack mark = mark ≡ Back

-- the bytes cut into a number of parts of one length
abbrev pub cut : ℕ → ℕ → List ℕ → List (List ℕ)
cut zero size bytes = []
cut (suc count) size bytes = take size bytes ∷ cut count size (drop size bytes)

-- the bytes of a request's packet as sectors
abbrev pub sectors_moved : Rules → Request → Payload → List (List ℕ)
sectors_moved rules r payload = cut (place_count rules (as_client rules r [])) rules.sector_size (payload_bytes payload)

-- the request of the packet at the spot is answered by a status
pub record AnswersPacket (old : DeviceView) (spot : ℕ) : Type 0 where
  pub packet : Packet
  pub is_spot : packet.spot ≡ spot
  pub request : Request
  pub payload : Payload
  pub status : NtStatus
  pub bytes : List ℕ
  pub answered : State
  pub answers : Answers old.rules old.state packet.number status bytes answered
  pub is_request : answers.request.request ≡ as_client old.rules request (sent_bytes request.kind payload)

-- a packet comes up with the bytes of its answer where it was done, and can be sent again as it is where it came back busy
pub record BringsUp (takes_srb : Bool) (rules : Rules) (request : Request) (payload : Payload) (status : NtStatus)
    (bytes : List ℕ) (marks : List Mark) : Type 0 where
  -- a read or a write that succeeded moved just the sectors that are its packet's bytes
  pub moved : status ≡ Success → marks ≡ map Done (sectors_moved rules request payload)
  -- a request that went as a whole and came back busy is answered as busy
  pub busy : IsTrue rules.one_piece → All IsBack marks → status ≡ DeviceBusy
  pub carries : status ≡ DeviceBusy → Carries takes_srb rules request payload
  pub brings : request.kind ≡ Read → status ≡ Success → payload_bytes payload ≡ bytes
  -- a read that succeeded brings as many bytes as it asked for
  pub filled : request.kind ≡ Read → status ≡ Success → length bytes ≡ request.extent.count * rules.sector_size
  -- a flush brings none
  pub empty : request.kind ≡ Flush → payload_bytes payload ≡ []

-- the answered packet is gone, its spot is reserved for its request again, and then pieces of others are started
pub record LeavesSpot (takes_srb : Bool) (old : DeviceView) (packet : Packet) (request : Request) (answered : State)
    (spot : ℕ) (new : DeviceView) : Type 0 where
  -- whether the spot has all that its request needs; it does where packets bring their SRBs along
  pub whole : Bool
  pub is_whole : IsTrue takes_srb → IsTrue whole
  pub room : SetsRoom old.rooms spot None (Some (record { request = request; whole = whole })) new.rooms
  pub others : List Packet
  pub is_in : IsPermutation old.packets (packet ∷ others)
  pub starts : List DeviceLabel
  pub only_starts : All IsStart starts
  pub moves : Moves (record old { state = answered; packets = others; rooms = new.rooms }) starts new
  -- requests that were started stay as they are
  pub started_stay : All (StaysIfStarted new.state) answered.requests
  -- where no window holds requests back, no piece is started, and the adapter stays as it was
  pub still : old.rules.window ≡ None → (starts ≡ []) × (new.adapter ≡ old.adapter)

-- the request of a packet is answered, the packet climbs with what it brings, and its spot is left reserved
pub record HandsUp (takes_srb : Bool) (old : DeviceView) (climb : Climb) (spot : ℕ) (new : DeviceView) : Type 0 where
  pub answer : AnswersPacket old spot
  pub brought : BringsUp takes_srb old.rules answer.request answer.payload answer.status answer.bytes
      answer.answers.request.marks
  pub left : LeavesSpot takes_srb old answer.packet answer.request answer.answered spot new
  pub climbs : Climbs answer.packet.above answer.packet.number answer.answers.request.cancelled answer.status
      (information answer.answers.request.request answer.status) answer.payload climb
  pub brings_routine : BringsRoutine answer.packet.cancel_routine climb

-- a place of the request came back busy and waits for the restart that it was granted, whatever came back busy since
pub record AwaitsRestart (rules : Rules) (s : State) (o : OpenRequest) : Type 0 where
  pub in_pieces : IsFalse rules.one_piece
  pub not_cancelled : IsFalse o.cancelled
  pub not_removing : IsFalse s.removing
  pub back : Any IsBack o.marks

-- where each place of the request has ended, it still awaits a restart
abbrev pub AwaitsRestartIfEnded : Rules → State → OpenRequest → Type 0
AwaitsRestartIfEnded rules s o = All (HasEnded rules s o) o.marks → AwaitsRestart rules s o

-- nothing that has ended waits, and the layer is settled
pub record HandsUpNone (old new : DeviceView) : Type 0 where
  pub unfinished : All (AwaitsRestartIfEnded old.rules old.state) old.state.requests
  pub settled : Settled old.rules old.state
  pub same : new ≡ old

-- a label is the first of these, as memory has it
pub record IsFirst (keeps : Bool) (labels : List DeviceLabel) (label : DeviceLabel) (rest : List DeviceLabel) : Type 0 where
  pub told : DeviceLabel
  pub is : labels ≡ told ∷ rest
  pub shown : label ≡ in_memory keeps told

-- the earliest label of the adapter is taken
abbrev pub TakesLabel : DeviceView → Option DeviceLabel → DeviceView → Type 0
TakesLabel old None new = (old.adapter.labels ≡ []) × (new ≡ old)
TakesLabel old (Some label) new =
    (rest : List DeviceLabel) × IsFirst old.rules.keeps_bytes old.adapter.labels label rest
    × (new ≡ record old { adapter = record old.adapter { labels = rest } })

-- none of the adapter's labels is left, and nothing else changes
abbrev pub ForgetsLabels : DeviceView → DeviceView → Type 0
ForgetsLabels old new = new ≡ record old { adapter = record old.adapter { labels = [] } }
