-- What becomes of requests that have ended, until their answers are told.
use Rattle.std.specs.Prelude.{◌≡◌, ◌≢◌, ◌<◌, ◌≤◌, ℕ, ◌+◌, ◌-◌, Bool, IsTrue, IsFalse, List, [], ◌++◌, Some, None}
use Rattle.std.specs.Prelude.{option_map, map, length, All, IsPermutation, MatchBool, is_some, slice_index, slice_set}
use Rattle.slab.specs.Slab.{Slab, get, slab_len, Updates}
use Rattle.ntstatus.specs.declared.NtStatus.{NtStatus}
use Rattle.ntstatus.specs.declared.NtStatus.TheVariants.{Success}
use Rattle.srb.specs.Bare.{in_memory}
use Rattle.srb.specs.declared.DeviceLabel.{DeviceLabel}
use Rattle.adapter.specs.View.{MovesByAll}
use Rattle.irp.specs.declared.Done.{Done}
use Rattle.irp.specs.declared.Irp.{Irp}
use Rattle.srb.specs.declared.Kind.{Kind}
use Rattle.srb.specs.declared.Kind.TheVariants.{Read}
use Rattle.machine.specs.declared.Label.{Label}
use Rattle.machine.specs.State.{State}
use Rattle.machine.specs.Answering.{AnswersWith}
use Rattle.machine.specs.Step.{Run, as_label}
use Rattle.machine.specs.Sending.{IsStart}
use Rattle.device.specs.View.{DeviceView, payload_bytes}
use Rattle.device.specs.Served.{SameRooms}
use Rattle.io_manager.specs.declared.Answer.{Answer}
use Rattle.io_manager.specs.declared.Handle.{Handle}
use Rattle.io_manager.specs.declared.tables.OpenRequest.{OpenRequest}
use Rattle.io_manager.specs.declared.tables.Tables.{Tables}
use Rattle.pnp.specs.declared.State.TheVariants.{Removing, Removed}
use Rattle.io_manager.specs.Calls.{partition_of}
use Rattle.io_manager.specs.inside.Chains.{TakesOut}
use Rattle.io_manager.specs.inside.Ordering.{inserted}
use Rattle.io_manager.specs.inside.Queue.{SameQueue}
use Rattle.io_manager.specs.Right.{AreRising, answer_number, as_answer, unless_answered, end_labels}
use Rattle.io_manager.specs.inside.Sound.{holder_of, SamePlaces, HasNoneToStart}

-- what is left of a packet that went out of the stack
abbrev pub done_of : Irp → Done
done_of irp = record {
  number = irp.number;
  status = irp.io_status.status;
  information = irp.io_status.information;
  payload = irp.payload;
}

-- the layer, with all labels of its adapter taken
abbrev pub unlabelled : DeviceView → DeviceView
unlabelled below = record below { adapter = record below.adapter { labels = [] } }

-- a label of the device as memory has it
abbrev pub shown_label : Bool → DeviceLabel → Label
shown_label keeps label = as_label (in_memory keeps label)

-- the labels that were told, and then those that the device recorded
abbrev pub and_recorded : List Label → DeviceView → List Label
and_recorded told below = told ++ map as_label below.adapter.labels

-- the labels that were told, and then those of these answers
abbrev pub and_answers : List Label → List Answer → List Label
and_answers told answers = told ++ map as_answer answers

-- an open request of this number at this slot
pub record IsAt (requests : Slab OpenRequest) (number slot : ℕ) : Type 0 where
  pub request : OpenRequest
  pub there : get requests slot ≡ Some request
  pub same_number : request.number ≡ number

-- no open request has this number
abbrev pub HasNone : Slab OpenRequest → ℕ → Type 0
HasNone requests number = (slot : ℕ) (request : OpenRequest) → get requests slot ≡ Some request
    → request.number ≢ number

-- the bytes that an answer brings: those of a read that succeeded
abbrev pub brought : Kind → NtStatus → List ℕ → List ℕ
brought Read Success bytes = bytes
brought kind status bytes = []

-- the answer of an open request whose packet was finished
abbrev pub answer_for : OpenRequest → Done → Answer
answer_for request done = record {
  number = done.number;
  status = done.status;
  information = done.information;
  bytes = brought request.kind done.status (payload_bytes done.payload);
}

-- where labels keep their bytes, those of a read that succeeded fit the room that its request has for the label
abbrev pub IsFilled : Bool → OpenRequest → Done → Type 0
IsFilled keeps_bytes request done = IsTrue keeps_bytes → request.kind ≡ Read → done.status ≡ Success
    → length (payload_bytes done.payload) ≤ request.label_bytes

-- the bytes that a finished packet brings fit the room of its open request
abbrev pub AreFilled : Bool → Slab OpenRequest → Done → Type 0
AreFilled keeps_bytes requests done = (slot : ℕ) (request : OpenRequest) → get requests slot ≡ Some request
    → request.number ≡ done.number → IsFilled keeps_bytes request done

-- one request fewer is open on a handle, if the handle is open still
abbrev pub CountsOut : Tables → Handle → Tables → Type 0
CountsOut old handle new =
    MatchBool (is_some (partition_of old.handles.slots handle))
    (new.open_counts ≡ slice_set old.open_counts handle.slot (slice_index old.open_counts handle.slot - 1))
    (new.open_counts ≡ old.open_counts)

-- a request that has ended leaves its slot; its answer waits to be taken, and its label is deferred
pub record Closes (old : Tables) (done : Done) (new : Tables) : Type 0 where
  pub slot : ℕ
  pub request : OpenRequest
  pub there : get old.requests slot ≡ Some request
  pub same_number : request.number ≡ done.number
  pub leaves : Updates old.requests new.requests slot None
  pub fewer : slab_len new.requests + 1 ≡ slab_len old.requests
  pub answered : new.answered.items ≡ inserted (answer_for request done) old.answered.items
  pub untaken : new.untaken.items ≡ inserted (answer_for request done) old.untaken.items
  pub counts : CountsOut old (record { slot = request.handle_slot; number = request.handle }) new
  pub chains : MatchBool request.cancelled (new.chains ≡ old.chains) (TakesOut old.chains slot new.chains)
  pub by_number : TakesOut old.by_number slot new.by_number
  pub same_labels : new.labels ≡ old.labels
  pub same_handles : new.handles ≡ old.handles
  pub same_next_handle : new.next_handle ≡ old.next_handle
  pub same_next_request : new.next_request ≡ old.next_request
  pub same_state : new.state ≡ old.state
  pub places : SamePlaces old new

-- a removal ends once no request is open, and that is told; else nothing changes
pub record EndsRemoval (old new : Tables) : Type 0 where
  pub ends : Bool
  pub ended : IsTrue ends → (old.state ≡ Removing) × (slab_len old.requests ≡ 0) × (new.state ≡ Removed)
  pub not_ended : IsFalse ends → (new.state ≡ old.state) × (old.state ≡ Removing → slab_len old.requests ≢ 0)
  pub tells : new.labels.items ≡ old.labels.items ++ end_labels ends
  pub label_places : SameQueue old.labels new.labels
  pub after : new ≡ record old { state = new.state; labels = new.labels }

-- one request that has ended is taken from the device and closed
pub record TakesEnded (below : DeviceView) (tables : Tables) (below' : DeviceView) (tables' : Tables) : Type 0 where
  pub done : Done
  pub closes : Closes tables done tables'
  pub answered : State
  pub starts : List DeviceLabel
  pub answers : AnswersWith below.rules below.state done.number done.status done.information
      (answer_for closes.request done).bytes answered
  pub only_starts : All IsStart starts
  pub same_rules : below'.rules ≡ below.rules
  pub same_rooms : SameRooms below.rooms below'.rooms
  pub run : Run below.rules answered (map as_label starts) below'.state
  pub adapter : MovesByAll below.adapter starts below'.adapter
  pub fewer : length below'.packets < length below.packets
  pub places_below : below'.places ≡ below.places
  pub quiet : HasNoneToStart below.rules below.state → (starts ≡ []) × HasNoneToStart below'.rules below'.state

-- some ended requests were taken and closed: first the machine starts all pieces that they made room for, then it
-- answers them
pub record Gathers (below : DeviceView) (tables : Tables) (below' : DeviceView) (tables' : Tables) : Type 0 where
  pub starts : List DeviceLabel
  pub only_starts : All IsStart starts
  pub rising : AreRising (map answer_number tables'.answered.items)
  pub same_rules : below'.rules ≡ below.rules
  pub same_rooms : SameRooms below.rooms below'.rooms
  pub run : Run below.rules below.state (map as_label starts ++ map as_answer tables'.answered.items) below'.state
  pub adapter : MovesByAll below.adapter starts below'.adapter
  pub untaken : IsPermutation tables'.untaken.items (tables'.answered.items ++ tables.untaken.items)
  pub holders : (slot : ℕ) → option_map holder_of (get tables'.requests slot)
      ≡ unless_answered tables'.answered.items (option_map holder_of (get tables.requests slot))
  pub same_labels : tables'.labels ≡ tables.labels
  pub same_handles : tables'.handles ≡ tables.handles
  pub same_next_handle : tables'.next_handle ≡ tables.next_handle
  pub same_next_request : tables'.next_request ≡ tables.next_request
  pub same_state : tables'.state ≡ tables.state
  pub places : SamePlaces tables tables'
  pub places_below : below'.places ≡ below.places
  -- where no piece is left to start, none is started, and none is left afterwards
  pub quiet : HasNoneToStart below.rules below.state → (starts ≡ []) × HasNoneToStart below'.rules below'.state
