-- A call as it comes in: how it is answered at once, and the request and the packet of one that is admitted.
use Rattle.std.specs.Prelude.{◌≡◌, ◌<◌, ◌≤◌, ◌&&◌, ℕ, true, false, Bool, ◌+◌, ◌/◌, max, nat_le, List, [], ◌∷◌, ◌++◌}
use Rattle.std.specs.Prelude.{Option, Some, None, IsTrue, length, slice_index, slice_set}
use Rattle.std.specs.Prelude.{if◌then◌else◌}
use Rattle.std.specs.VecDeque.{deque_len, deque_capacity}
use Rattle.slab.specs.Slab.{get, slab_len, Updates}
use Rattle.ntstatus.specs.declared.NtStatus.{NtStatus}
use Rattle.ntstatus.specs.declared.NtStatus.TheVariants.{Success, DeviceBusy as BusyStatus}
use Rattle.ntstatus.specs.declared.NtStatus.TheVariants.{DeletePending as PendingStatus}
use Rattle.ntstatus.specs.declared.NtStatus.TheVariants.{InvalidParameter as ParameterStatus}
use Rattle.ntstatus.specs.First.{when, first_some}
use Rattle.irp.specs.declared.Driver.TheVariants.{Partition}
use Rattle.irp.specs.declared.Irp.{Irp}
use Rattle.irp.specs.declared.StackLocation.{StackLocation}
use Rattle.irp.specs.declared.Payload.{Payload}
use Rattle.srb.specs.declared.Kind.{Kind}
use Rattle.srb.specs.declared.Kind.TheVariants.{Read, Write, Flush}
use Rattle.machine.specs.declared.Request.{Request}
use Rattle.machine.specs.declared.ClientRequest.{ClientRequest}
use Rattle.machine.specs.declared.Label.{Label}
use Rattle.machine.specs.declared.Label.TheVariants.{Call, Answer as AnswerLabel}
use Rattle.machine.specs.Rules.{Rules, sectors_of}
use Rattle.machine.specs.State.{State}
use Rattle.machine.specs.Calling.{refusal}
use Rattle.machine.specs.Sending.{partition_number}
use Rattle.device.specs.View.{DeviceView, Packet, payload_bytes, major_of, IsTopmost}
use Rattle.device.specs.Served.{Submits}
use Rattle.pnp.specs.declared.State.{State as PnpState}
use Rattle.pnp.specs.declared.State.TheVariants.{Started, RemovePending, Removing, Removed}
use Rattle.io_manager.specs.declared.Handle.{Handle}
use Rattle.io_manager.specs.declared.Reply.{Reply}
use Rattle.io_manager.specs.declared.Reply.TheVariants.{Handle as HandleReply, Ok as OkReply, Request as Requested}
use Rattle.io_manager.specs.declared.Reply.TheVariants.{Answered, Refused, Ignored}
use Rattle.io_manager.specs.declared.tables.Tables.{Tables}
use Rattle.io_manager.specs.declared.Asked.{Asked}
use Rattle.io_manager.specs.declared.admission.Decision.{Decision}
use Rattle.io_manager.specs.declared.admission.Decision.TheVariants.{UsedUp, Ends, Opens}
use Rattle.io_manager.specs.declared.admission.AtOnce.{AtOnce}
use Rattle.io_manager.specs.declared.admission.AtOnce.TheVariants.{Empty, Refused as RefusedFor}
use Rattle.io_manager.specs.declared.admission.Bounds.{Bounds}
use Rattle.io_manager.specs.declared.admission.CallBytes.{CallBytes}
use Rattle.io_manager.specs.declared.admission.LabelBytes.{LabelBytes}
use Rattle.io_manager.specs.Calls.{status_of_refusal, bytes_called, are_used_up, handle_limit}
use Rattle.io_manager.specs.inside.Chains.{PutsLast, remainder_of}
use Rattle.io_manager.specs.inside.Queue.{SameQueue}
use Rattle.io_manager.specs.Shown.{ManagerView}

-- the status of a call that ends where it begins
abbrev pub status_at_once : AtOnce → NtStatus
status_at_once Empty = Success
status_at_once (RefusedFor refusal) = status_of_refusal refusal

-- what a call asks of a partition, as a request without its bytes
abbrev pub asked_for : Option ℕ → Asked → ClientRequest
asked_for partition asked = record {
  partition = partition;
  kind = asked.kind;
  offset = asked.offset;
  length = asked.length;
  through = asked.through;
  bytes = [];
}

-- what is decided of a call: by its number, and then by what refuses it
abbrev pub Decides : ManagerView → ClientRequest → Decision → Type 0
Decides v q UsedUp = are_used_up v.state.next_request ≡ true
Decides v q (Ends at_once) = (are_used_up v.state.next_request ≡ false)
    × (refusal v.rules v.state q ≡ Some (status_at_once at_once))
Decides v q Opens = (are_used_up v.state.next_request ≡ false) × (refusal v.rules v.state q ≡ None)

-- the machine's removal has begun
abbrev pub is_going : PnpState → Bool
is_going Started = false
is_going RemovePending = false
is_going Removing = true
is_going Removed = true

-- what bounds a request: the sizes of these rules, the sectors of its partition, the state, and as many requests open
pub record AreBoundsOf (bounds : Bounds) (partition : Option ℕ) (rules : Rules) (s : State) : Type 0 where
  pub sector_size : bounds.sector_size ≡ rules.sector_size
  pub sectors : bounds.sectors ≡ sectors_of rules partition
  pub longest : bounds.longest ≡ rules.longest
  pub open_requests : rules.open_requests ≡ Some bounds.open_requests
  pub removing : s.removing ≡ bounds.removing
  pub open_count : length s.requests ≡ bounds.open_count

-- the sectors of its partition that a request asks for
abbrev pub request_of : ℕ → ClientRequest → Request
request_of sector_size q = record {
  volume = partition_number q;
  kind = q.kind;
  extent = record { first = q.offset / sector_size; count = q.length / sector_size };
  through = q.through;
}

-- the label of a call, with these bytes
abbrev pub with_bytes : List ℕ → Label → Label
with_bytes bytes (Call number q) = Call number (record q { bytes = bytes })
with_bytes bytes label = label

-- there is a copy of the bytes that are told of a call, or none of them
abbrev pub IsCopied : Bool → CallBytes → Type 0
IsCopied copies bytes = bytes.copy ≡ (if copies then bytes.told.items else [])

-- how many bytes the label of an answer has room for: as many as a read's buffer has, and none for other kinds
abbrev pub answer_room_of : Kind → ℕ → ℕ
answer_room_of Read bytes = bytes
answer_room_of Write bytes = 0
answer_room_of Flush bytes = 0

-- the buffers that a request needs for the manager's own labels
pub record HasLabelBytes (keeps keeps_bytes : Bool) (kind : Kind) (buffer : List ℕ) (copies : LabelBytes) : Type 0 where
  pub told : copies.call_bytes.told.items ≡ bytes_called kind buffer
  pub copied : IsCopied (keeps && keeps_bytes) copies.call_bytes
  pub label_bytes : IsTrue keeps_bytes → copies.label_bytes ≡ answer_room_of kind (length buffer)

-- the first location of a request: of its kind and its extent, with SL_WRITE_THROUGH or no flags, and no completion
-- routine
abbrev pub first_location : Request → StackLocation
first_location r = record {
  driver = Partition;
  major = major_of false r.kind;
  minor = None;
  control = record { 0 = 0 };
  flags = record { 0 = if r.through then 0x04 else 0 };
  volume = r.volume;
  extent = r.extent;
}

-- a packet on its way to the topmost device
pub record IsOnTop (number : ℕ) (request : Request) (irp : Irp) : Type 0 where
  pub is_number : irp.number ≡ number
  pub not_cancelled : irp.cancelled ≡ false
  pub location : irp.locations.items ≡ first_location request ∷ []

-- a call and its answer are told, and a number is used
pub record AnswersAtOnce (old : Tables) (q : ClientRequest) (status : NtStatus) (new : Tables) : Type 0 where
  pub tells : new.labels.items ≡ old.labels.items
      ++ Call old.next_request q ∷ AnswerLabel old.next_request status 0 [] ∷ []
  pub label_places : SameQueue old.labels new.labels
  pub after : new ≡ record old { next_request = old.next_request + 1; labels = new.labels }

-- the reply to a call that ends where it begins
abbrev pub reply_at_once : ℕ → List ℕ → AtOnce → Reply
reply_at_once number buffer Empty = Answered (record { number = number; status = Success; information = 0; bytes = [] })
reply_at_once number buffer (RefusedFor refusal) = Refused refusal buffer

-- a request is open under the next number, in a slot that was free, and its call is told
pub record Admits (old : Tables) (handle : Handle) (q : ClientRequest) (copies : LabelBytes) (spot slot : ℕ)
    (new : Tables) : Type 0 where
  pub was_free : get old.requests slot ≡ None
  pub in_range : slot < old.requests.capacity
  pub holds : Updates old.requests new.requests slot
      (Some (record {
        number = old.next_request;
        handle = handle.number;
        handle_slot = handle.slot;
        kind = q.kind;
        spot = spot;
        cancelled = false;
        label_bytes = copies.label_bytes;
      }))
  pub counted : slab_len new.requests ≡ slab_len old.requests + 1
  pub slots : new.requests.capacity ≡ old.requests.capacity
  pub tells : new.labels.items ≡ old.labels.items
      ++ Call old.next_request (record q { bytes = copies.call_bytes.told.items }) ∷ []
  pub one_more : length new.labels.items ≡ length old.labels.items + 1
  pub label_places : SameQueue old.labels new.labels
  pub chains : PutsLast old.chains handle.slot slot new.chains
  pub by_number : PutsLast old.by_number (remainder_of old.next_request) slot new.by_number
  pub counts : new.open_counts ≡ slice_set old.open_counts handle.slot (slice_index old.open_counts handle.slot + 1)
  pub after : new ≡ record old {
    next_request = old.next_request + 1;
    requests = new.requests;
    chains = new.chains;
    by_number = new.by_number;
    open_counts = new.open_counts;
    labels = new.labels;
  }

-- what refuses a handle on a partition of this many, if anything: the first that fits
abbrev pub handle_refusal : Tables → ℕ → ℕ → Option NtStatus
handle_refusal tables partition partitions = first_some (
    when (are_used_up tables.next_handle) BusyStatus
    ∷ when (is_going tables.state) PendingStatus
    ∷ when (nat_le partitions partition) ParameterStatus
    ∷ when (nat_le handle_limit (slab_len tables.handles)) BusyStatus
    ∷ [])

-- a handle is given under the next number, in a slot that was free
pub record Gives (old : Tables) (partition partitions : ℕ) (handle : Handle) (new : Tables) : Type 0 where
  pub not_refused : handle_refusal old partition partitions ≡ None
  pub next_number : handle.number ≡ old.next_handle
  pub was_free : get old.handles handle.slot ≡ None
  pub in_range : handle.slot < old.handles.capacity
  pub opens : Updates old.handles new.handles handle.slot
      (Some (record { number = handle.number; partition = partition }))
  pub slots : new.handles.capacity ≡ old.handles.capacity
  pub counts : new.open_counts ≡ slice_set old.open_counts handle.slot 0
  pub after : new ≡ record old {
    next_handle = old.next_handle + 1;
    handles = new.handles;
    open_counts = new.open_counts;
  }

-- a handle is given, or refused and nothing changes
abbrev pub OpensHandle : Tables → ℕ → ℕ → Reply → Tables → Type 0
OpensHandle old partition partitions (HandleReply handle) new = Gives old partition partitions handle new
OpensHandle old partition partitions (Refused reason bytes) new =
    (handle_refusal old partition partitions ≡ Some (status_of_refusal reason)) × (bytes ≡ []) × (new ≡ old)
OpensHandle old partition partitions OkReply new = ⊥
OpensHandle old partition partitions (Requested id) new = ⊥
OpensHandle old partition partitions (Answered answer) new = ⊥
OpensHandle old partition partitions Ignored new = ⊥

-- places for more answers may be made, 64 at most, and nothing else changes
pub record KeepsAnswers (old new : Tables) : Type 0 where
  pub same_untaken : new.untaken.items ≡ old.untaken.items
  pub same_count : deque_len new.untaken ≡ deque_len old.untaken
  pub answer_places : deque_capacity old.untaken ≤ deque_capacity new.untaken
  pub few_places : deque_capacity new.untaken ≤ max (deque_capacity old.untaken) (deque_len old.untaken + 64)
  pub after : new ≡ record old { untaken = new.untaken }

-- the packet of a request goes down as the topmost, with the caller's buffer, to this spot
pub record SendsDown (old : DeviceView) (number spot : ℕ) (request : Request) (buffer : List ℕ)
    (new : DeviceView) : Type 0 where
  pub packet : Packet
  pub payload : Payload
  pub is_number : packet.number ≡ number
  pub is_spot : packet.spot ≡ spot
  pub topmost : IsTopmost packet
  pub brings : payload_bytes payload ≡ buffer
  pub submits : Submits old packet request payload new

-- a request is open, and its packet is below at the spot that its entry keeps
pub record IsSent (below : DeviceView) (tables : Tables) (handle : Handle) (q : ClientRequest) (request : Request)
    (copies : LabelBytes) (buffer : List ℕ) (spot slot : ℕ) (below' : DeviceView) (tables' : Tables) : Type 0 where
  pub admits : Admits tables handle q copies spot slot tables'
  pub sends : SendsDown below tables.next_request spot request buffer below'

-- where a call has a partition, its number is below this
abbrev pub IsKnown : ℕ → Option ℕ → Type 0
IsKnown partitions None = Unit {0}
IsKnown partitions (Some partition) = partition < partitions

-- a flush asks for no bytes, from byte 0 on
abbrev pub IsPlain : ClientRequest → Type 0
IsPlain q = q.kind ≡ Flush → (q.offset ≡ 0) × (q.length ≡ 0)

-- nothing refuses the call: its partition is there, and there is a number and a free slot for it
pub record IsAdmissible (v : ManagerView) (q : ClientRequest) : Type 0 where
  pub plain : IsPlain q
  pub known : IsKnown (length v.rules.partitions) q.partition
  pub numbers_last : are_used_up v.state.next_request ≡ false
  pub not_refused : refusal v.rules v.state q ≡ None
