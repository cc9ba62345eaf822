-- When a call of the I/O manager, or a step of the adapter, is right.
use Rattle.std.specs.Prelude.{◌≡◌, ◌≢◌, ◌<◌, ◌⊎◌, ℕ, ◌+◌, ◌==◌, Bool, true, false, List, [], ◌∷◌, ◌++◌, Option, Some}
use Rattle.std.specs.Prelude.{None, Result, map, filter, slice_get, slice_index_or, remove, is_some, IsTrue, IsFalse}
use Rattle.std.specs.Prelude.{length, All, Contains, IsPermutation, if◌then◌else◌}
use Rattle.std.specs.List.{list_any}
use Rattle.std.specs.List.Sorted.{IsStrictlyIncreasing}
use Rattle.ntstatus.specs.declared.NtStatus.{NtStatus}
use Rattle.ntstatus.specs.declared.NtStatus.TheVariants.{Success}
use Rattle.srb.specs.declared.Class.{Class}
use Rattle.srb.specs.declared.Completion.{Completion}
use Rattle.srb.specs.declared.Entry.{Entry}
use Rattle.srb.specs.declared.DeviceLabel.{DeviceLabel}
use Rattle.srb.specs.declared.DeviceLabel.TheVariants.{Return}
use Rattle.adapter.specs.View.{AdapterView, MovesByAll, NotesReset, ReservesMore, ReservesNear}
use Rattle.adapter.specs.Calls.{IsBooked}
use Rattle.adapter.specs.Booking.{Books}
use Rattle.srb.specs.declared.Kind.TheVariants.{Read, Write, Flush}
use Rattle.machine.specs.declared.ClientRequest.{ClientRequest}
use Rattle.machine.specs.Bare.{in_memory}
use Rattle.machine.specs.declared.Label.{Label}
use Rattle.machine.specs.declared.Label.TheVariants.{Call, Answer as AnswerLabel, Cancel, Pause, Resume, Remove}
use Rattle.machine.specs.declared.Label.TheVariants.{Surprise, Removed as RemovedLabel}
use Rattle.machine.specs.State.{OpenRequest, Piece, State}
use Rattle.machine.specs.Calling.{refusal}
use Rattle.machine.specs.Sending.{HasOtherTag, IsStart}
use Rattle.machine.specs.Step.{Run, as_label}
use Rattle.machine.specs.Numbers.{request_number}
use Rattle.device.specs.View.{IsRead, KeepsOutside}
use Rattle.device.specs.Served.{IsFreshOn, IsAct, IsActOrFault, is_fresh_piece, fault_of, piece_tag}
use Rattle.pnp.specs.declared.State.{State as PnpState}
use Rattle.pnp.specs.declared.State.TheVariants.{Started, RemovePending, Removing, Removed}
use Rattle.pnp.specs.Table.{Event, QueryRemove, CancelRemove, Remove as RemoveDevice, SurpriseRemove, next}
use Rattle.io_manager.specs.declared.Answer.{Answer}
use Rattle.io_manager.specs.declared.Asked.{Asked}
use Rattle.io_manager.specs.declared.Handle.{Handle}
use Rattle.io_manager.specs.declared.Id.{Id}
use Rattle.io_manager.specs.declared.Refusal.{Refusal}
use Rattle.io_manager.specs.declared.Refusal.TheVariants.{InvalidHandle, DeviceBusy, InsufficientResources}
use Rattle.io_manager.specs.declared.Refusal.TheVariants.{InvalidDeviceRequest, NotFound}
use Rattle.io_manager.specs.declared.Reply.{Reply}
use Rattle.io_manager.specs.declared.Reply.TheVariants.{Handle as HandleReply, Ok as OkReply, Request as Requested}
use Rattle.io_manager.specs.declared.Reply.TheVariants.{Answered, Refused, Ignored}
use Rattle.io_manager.specs.Shown.{ManagerView, Holder}
use Rattle.io_manager.specs.Calls.{handle_limit, are_used_up, status_of_refusal, call_on, partition_of, without_bytes}
use Rattle.io_manager.specs.Calls.{Need, open_refusal, reserved_by}

-- the label of an answer
abbrev pub as_answer : Answer → Label
as_answer answer = AnswerLabel answer.number answer.status answer.information answer.bytes

-- the number of the request that an answer is for
abbrev pub answer_number : Answer → ℕ
answer_number answer = answer.number

-- the label of a cancellation
abbrev pub as_cancel : ℕ → Label
as_cancel number = Cancel number

-- another number is above this one
abbrev pub IsAbove : ℕ → ℕ → Type 0
IsAbove number other = number < other

-- each number is above all before it
abbrev pub AreRising : List ℕ → Type 0
AreRising [] = Unit {0}
AreRising (number ∷ numbers) = All (IsAbove number) numbers × AreRising numbers

-- a table by slots that differs from another at one slot alone
pub record Updates {X : Type 0} (old new : List (Option X)) (slot : ℕ) (item : Option X) : Type 0 where
  pub there : slice_index_or new slot None ≡ item
  pub others : (other : ℕ) → other ≢ slot → slice_index_or new other None ≡ slice_index_or old other None

-- WHAT A STEP TELLS

-- a step's own labels, then the device's, then the answers of requests that were open, and last whether a removal
-- ended; the requests by slot that were open before it, with the one that it opened; and what it asked memory for, if
-- for anything
pub record Told : Type 0 where
  pub own : List Label
  pub device : List DeviceLabel
  pub answers : List Answer
  pub ends : Bool
  pub admitted : List (Option Holder)
  pub reserves : Option Need

-- the label of a removal that ended
abbrev pub end_labels : Bool → List Label
end_labels true = RemovedLabel ∷ []
end_labels false = []

-- all of these labels in order
abbrev pub labels_of : Told → List Label
labels_of told = ((told.own ++ map as_label told.device) ++ map as_answer told.answers) ++ end_labels told.ends

-- nothing is told, no request came or went, and no memory was asked for
abbrev pub tells_nothing : ManagerView → Told
tells_nothing v = record {
  own = [];
  device = [];
  answers = [];
  ends = false;
  admitted = v.holders;
  reserves = None;
}

-- THE TABLE: for each call what is told, its reply, and what becomes of the handles

-- the handles stay as they are
pub record SameHandles (old new : ManagerView) : Type 0 where
  pub handles : new.handles ≡ old.handles
  pub next_handle : new.next_handle ≡ old.next_handle

-- nothing happened, and no memory was asked for
pub record IsUnmoved (old new : ManagerView) (told : Told) : Type 0 where
  pub nothing : told ≡ tells_nothing old
  pub same_state : new.state ≡ old.state
  pub same_adapter : new.adapter ≡ old.adapter

-- the call is refused for this reason, with no bytes to give back, and nothing happened
pub record RefusesAlone (old : ManagerView) (reason why : Refusal) (bytes : List ℕ) (new : ManagerView)
    (told : Told) : Type 0 where
  pub is_reason : reason ≡ why
  pub no_bytes : bytes ≡ []
  pub unmoved : IsUnmoved old new told
  pub same_handles : SameHandles old new

-- READ, WRITE, FLUSH

-- nothing happened, except that memory was asked for: tables may have grown, and more may be reserved for a write
pub record ReservesAlone (old : ManagerView) (q : ClientRequest) (new : ManagerView) (told : Told) : Type 0 where
  pub nothing : told ≡ record (tells_nothing old) { reserves = reserved_by old.rules q }
  pub same_state : new.state ≡ old.state
  pub unless_write : q.kind ≢ Write → new.adapter ≡ old.adapter

-- a call that is refused, or has no bytes, tells its two labels and no more; no memory was asked for
pub record IsAnsweredAtOnce (old : ManagerView) (q : ClientRequest) (status : NtStatus) (new : ManagerView)
    (told : Told) : Type 0 where
  pub numbers_last : are_used_up old.state.next_request ≡ false
  pub is_refused : refusal old.rules old.state q ≡ Some status
  pub tells : told ≡ record (tells_nothing old) {
    own = Call old.state.next_request (without_bytes q) ∷ AnswerLabel old.state.next_request status 0 [] ∷ [];
  }
  pub same_adapter : new.adapter ≡ old.adapter

-- the slot is below the number of requests that may be open
abbrev pub IsSlotOf : Option ℕ → ℕ → Type 0
IsSlotOf None slot = ⊥
IsSlotOf (Some most) slot = slot < most

-- the call opens a request, under the next number and in a slot that was free
pub record IsAdmitted (old : ManagerView) (handle : Handle) (q : ClientRequest) (slot number : ℕ)
    (told : Told) : Type 0 where
  pub numbers_last : are_used_up old.state.next_request ≡ false
  pub not_refused : refusal old.rules old.state q ≡ None
  pub next_number : number ≡ old.state.next_request
  pub own : told.own ≡ Call number q ∷ []
  pub only_starts : All IsStart told.device
  pub reserves : told.reserves ≡ reserved_by old.rules q
  pub was_free : slice_index_or old.holders slot None ≡ None
  pub in_range : IsSlotOf old.rules.open_requests slot
  pub holds : Updates old.holders told.admitted slot (Some (record { number = number; handle = handle.number }))

-- the call is turned away: nothing happens where no number is left for it; where memory was refused, a part of a write
-- may have been reserved
abbrev pub IsTurnedAway : ManagerView → ClientRequest → Refusal → ManagerView → Told → Type 0
IsTurnedAway old q DeviceBusy new told = (are_used_up old.state.next_request ≡ true) × IsUnmoved old new told
IsTurnedAway old q InsufficientResources new told =
    (are_used_up old.state.next_request ≡ false) × (refusal old.rules old.state q ≡ None)
    × ReservesAlone old q new told
IsTurnedAway old q _ new told = ⊥

-- the reply to a read, a write or a flush with this buffer
abbrev pub TransferReplies : ManagerView → Handle → ClientRequest → List ℕ → Reply → ManagerView → Told → Type 0
TransferReplies old handle q buffer (Requested id) new told = IsAdmitted old handle q id.slot id.number told
TransferReplies old handle q buffer (Answered answer) new told =
    IsAnsweredAtOnce old q Success new told
    × (answer ≡ record { number = old.state.next_request; status = Success; information = 0; bytes = [] })
TransferReplies old handle q buffer (Refused reason bytes) new told =
    (bytes ≡ buffer)
    × (IsAnsweredAtOnce old q (status_of_refusal reason) new told ⊎ IsTurnedAway old q reason new told)
TransferReplies old handle q buffer (HandleReply given) new told = ⊥
TransferReplies old handle q buffer OkReply new told = ⊥
TransferReplies old handle q buffer Ignored new told = ⊥

-- the row of a read, a write or a flush
pub record CallReplies (old : ManagerView) (handle : Handle) (q : ClientRequest) (buffer : List ℕ) (reply : Reply)
    (new : ManagerView) (told : Told) : Type 0 where
  pub replies : TransferReplies old handle q buffer reply new told
  pub handles : SameHandles old new

-- OPEN

-- a handle is given, under the next number and in a slot that was free
pub record IsGiven (old : ManagerView) (partition : ℕ) (handle : Handle) (new : ManagerView) : Type 0 where
  pub not_refused : open_refusal old partition ≡ None
  pub next_number : handle.number ≡ old.next_handle
  pub counted : new.next_handle ≡ old.next_handle + 1
  pub was_free : slice_index_or old.handles handle.slot None ≡ None
  pub in_range : handle.slot < handle_limit
  pub opens : Updates old.handles new.handles handle.slot
      (Some (record { number = handle.number; partition = partition }))

-- an open gives a handle, or is refused and changes nothing
abbrev pub OpenReplies : ManagerView → ℕ → Reply → ManagerView → Told → Type 0
OpenReplies old partition (HandleReply handle) new told = IsUnmoved old new told × IsGiven old partition handle new
OpenReplies old partition (Refused reason bytes) new told =
    (open_refusal old partition ≡ Some (status_of_refusal reason)) × RefusesAlone old reason reason bytes new told
OpenReplies old partition OkReply new told = ⊥
OpenReplies old partition (Requested id) new told = ⊥
OpenReplies old partition (Answered answer) new told = ⊥
OpenReplies old partition Ignored new told = ⊥

-- CANCELLATION: CLOSE, CANCELIOEX, MARK

-- the handle is open
abbrev pub IsHandleOpen : ManagerView → Handle → Type 0
IsHandleOpen v handle = is_some (partition_of v.handles handle) ≡ true

-- in this slot is the open request of this number, called on the handle of that number
abbrev pub HoldsAt : ManagerView → ℕ → ℕ → ℕ → Type 0
HoldsAt v slot number handle = slice_index_or v.holders slot None ≡ Some (record { number = number; handle = handle })

-- an open request of the handle that is not cancelled yet
pub record IsToCancel (v : ManagerView) (handle number : ℕ) : Type 0 where
  pub slot : ℕ
  pub request : OpenRequest
  pub holds : HoldsAt v slot number handle
  pub is_open : Contains v.state.requests request
  pub is_number : request.number ≡ number
  pub not_yet : IsFalse request.cancelled

-- all open requests of a handle that are not cancelled yet are cancelled, by rising numbers, and no piece starts
pub record CancelsAllOf (old : ManagerView) (handle : ℕ) (told : Told) : Type 0 where
  pub numbers : List ℕ
  pub own : told.own ≡ map as_cancel numbers
  pub rising : AreRising numbers
  pub each : All (IsToCancel old handle) numbers
  pub all : (number : ℕ) → IsToCancel old handle number → Contains numbers number
  pub no_device : told.device ≡ []
  pub holders : told.admitted ≡ old.holders
  pub reserves_none : told.reserves ≡ None

-- an open request becomes cancelled, if it was not, and no piece starts
pub record CancelsOne (old : ManagerView) (number : ℕ) (told : Told) : Type 0 where
  pub request : OpenRequest
  pub is_open : Contains old.state.requests request
  pub is_number : request.number ≡ number
  pub own : told.own ≡ (if request.cancelled then [] else Cancel number ∷ [])
  pub no_device : told.device ≡ []
  pub holders : told.admitted ≡ old.holders
  pub reserves_none : told.reserves ≡ None

-- an open handle is closed, and no other handle changes
pub record IsClosed (old : ManagerView) (handle : Handle) (new : ManagerView) : Type 0 where
  pub was_open : IsHandleOpen old handle
  pub closes : Updates old.handles new.handles handle.slot None
  pub next_handle : new.next_handle ≡ old.next_handle

-- a close cancels all that its handle has open, and closes the handle
abbrev pub CloseReplies : ManagerView → Handle → Reply → ManagerView → Told → Type 0
CloseReplies old handle OkReply new told = IsClosed old handle new × CancelsAllOf old handle.number told
CloseReplies old handle (Refused reason bytes) new told =
    (partition_of old.handles handle ≡ None) × RefusesAlone old reason InvalidHandle bytes new told
CloseReplies old handle (HandleReply given) new told = ⊥
CloseReplies old handle (Requested id) new told = ⊥
CloseReplies old handle (Answered answer) new told = ⊥
CloseReplies old handle Ignored new told = ⊥

-- the handle has an open request, or this one where one is given
abbrev pub HasTarget : ManagerView → Handle → Option Id → Type 0
HasTarget v handle None = (slot : ℕ) × (number : ℕ) × HoldsAt v slot number handle.number
HasTarget v handle (Some id) = HoldsAt v id.slot id.number handle.number

-- all open requests of the handle are cancelled, or this one where one is given
abbrev pub CancelsTarget : ManagerView → Handle → Option Id → Told → Type 0
CancelsTarget old handle None told = CancelsAllOf old handle.number told
CancelsTarget old handle (Some id) told = CancelsOne old id.number told

-- why there is nothing to cancel
abbrev pub IsNotCancelled : ManagerView → Handle → Option Id → Refusal → Type 0
IsNotCancelled old handle target InvalidHandle = partition_of old.handles handle ≡ None
IsNotCancelled old handle target NotFound = IsHandleOpen old handle × (HasTarget old handle target → ⊥)
IsNotCancelled old handle target _ = ⊥

-- CancelIoEx cancels what it finds, or is refused and changes nothing
abbrev pub CancelReplies : ManagerView → Handle → Option Id → Reply → ManagerView → Told → Type 0
CancelReplies old handle target OkReply new told =
    IsHandleOpen old handle × HasTarget old handle target × CancelsTarget old handle target told × SameHandles old new
CancelReplies old handle target (Refused reason bytes) new told =
    IsNotCancelled old handle target reason × RefusesAlone old reason reason bytes new told
CancelReplies old handle target (HandleReply given) new told = ⊥
CancelReplies old handle target (Requested id) new told = ⊥
CancelReplies old handle target (Answered answer) new told = ⊥
CancelReplies old handle target Ignored new told = ⊥

-- the request has another number
abbrev pub HasOtherNumber : ℕ → OpenRequest → Type 0
HasOtherNumber number o = o.number ≢ number

-- a mark cancels the open request of its number, or finds none and nothing happens
abbrev pub MarkReplies : ManagerView → ℕ → Reply → ManagerView → Told → Type 0
MarkReplies old number OkReply new told = CancelsOne old number told × SameHandles old new
MarkReplies old number Ignored new told =
    IsUnmoved old new told × All (HasOtherNumber number) old.state.requests × SameHandles old new
MarkReplies old number (HandleReply given) new told = ⊥
MarkReplies old number (Requested id) new told = ⊥
MarkReplies old number (Answered answer) new told = ⊥
MarkReplies old number (Refused reason bytes) new told = ⊥

-- REMOVAL

-- the plug and play state that the machine's flags show
abbrev pub pnp_state : State → PnpState
pnp_state s =
    if s.removing then (if s.removed then Removed else Removing)
    else (if s.paused then RemovePending else Started)

-- the call tells one label of its own, and then what it lets the device do
pub record TellsOne (old : ManagerView) (label : Label) (told : Told) : Type 0 where
  pub own : told.own ≡ label ∷ []
  pub holders : told.admitted ≡ old.holders
  pub reserves_none : told.reserves ≡ None

-- the call is valid in this state, and the device tells no label
pub record IsValid (old : ManagerView) (event : Event) (after : PnpState) (label : Label) (new : ManagerView)
    (told : Told) : Type 0 where
  pub valid : next event (pnp_state old.state) ≡ Some after
  pub tells : TellsOne old label told
  pub no_device : told.device ≡ []
  pub handles : SameHandles old new

-- the call is invalid in this state: nothing happens
pub record IsInvalid (old : ManagerView) (event : Event) (reason : Refusal) (bytes : List ℕ) (new : ManagerView)
    (told : Told) : Type 0 where
  pub invalid : next event (pnp_state old.state) ≡ None
  pub refuses : RefusesAlone old reason InvalidDeviceRequest bytes new told

-- the reply to a plug and play call with this label
abbrev pub PnpReplies : ManagerView → Event → PnpState → Label → Reply → ManagerView → Told → Type 0
PnpReplies old event after label OkReply new told = IsValid old event after label new told
PnpReplies old event after label (Refused reason bytes) new told = IsInvalid old event reason bytes new told
PnpReplies old event after label (HandleReply given) new told = ⊥
PnpReplies old event after label (Requested id) new told = ⊥
PnpReplies old event after label (Answered answer) new told = ⊥
PnpReplies old event after label Ignored new told = ⊥

abbrev pub QueryReplies : ManagerView → Reply → ManagerView → Told → Type 0
QueryReplies old reply new told = PnpReplies old QueryRemove RemovePending Pause reply new told

abbrev pub RemoveReplies : ManagerView → Reply → ManagerView → Told → Type 0
RemoveReplies old reply new told = PnpReplies old RemoveDevice Removing Remove reply new told

abbrev pub SurpriseReplies : ManagerView → Reply → ManagerView → Told → Type 0
SurpriseReplies old reply new told = PnpReplies old SurpriseRemove Removing Surprise reply new told

-- with no query pending nothing happens; with one the pause ends, and then pieces are started
abbrev pub IsRecalled : PnpState → ManagerView → ManagerView → Told → Type 0
IsRecalled Started old new told = IsUnmoved old new told
IsRecalled RemovePending old new told = TellsOne old Resume told × All IsStart told.device
IsRecalled Removing old new told = ⊥
IsRecalled Removed old new told = ⊥

-- a query is taken back
abbrev pub RecallReplies : ManagerView → Reply → ManagerView → Told → Type 0
RecallReplies old OkReply new told = IsRecalled (pnp_state old.state) old new told × SameHandles old new
RecallReplies old (Refused reason bytes) new told = IsInvalid old CancelRemove reason bytes new told
RecallReplies old (HandleReply given) new told = ⊥
RecallReplies old (Requested id) new told = ⊥
RecallReplies old (Answered answer) new told = ⊥
RecallReplies old Ignored new told = ⊥

-- THE ADAPTER

-- no request is answered, and no removal ends
pub record EndsNone (told : Told) : Type 0 where
  pub none_answered : told.answers ≡ []
  pub not_ended : told.ends ≡ false

-- the tag's fresh piece acts or faults, and nothing else is told
pub record TellsAct (old : ManagerView) (tag : ℕ) (told : Told) : Type 0 where
  pub piece : Piece
  pub label : DeviceLabel
  pub fresh : IsFreshOn old.state tag piece
  pub acts : IsActOrFault piece.number label
  pub if_booked : IsBooked old.adapter tag → IsAct label
  pub no_own : told.own ≡ []
  pub device : told.device ≡ label ∷ []
  pub ends_none : EndsNone told
  pub holders : told.admitted ≡ old.holders
  pub reserves_none : told.reserves ≡ None

-- the tag has no piece that could act
pub record HasNoneFresh (old : ManagerView) (tag : ℕ) : Type 0 where
  pub none : (piece : Piece) → IsFreshOn old.state tag piece → ⊥

-- an act is told, or there is none to tell and nothing happens
abbrev pub ActReplies : ManagerView → ℕ → Reply → ManagerView → Told → Type 0
ActReplies old tag OkReply new told = TellsAct old tag told × SameHandles old new
ActReplies old tag Ignored new told = IsUnmoved old new told × HasNoneFresh old tag × SameHandles old new
ActReplies old tag (HandleReply handle) new told = ⊥
ActReplies old tag (Requested id) new told = ⊥
ActReplies old tag (Answered answer) new told = ⊥
ActReplies old tag (Refused reason bytes) new told = ⊥

-- only the adapter changes by what is booked of a piece
pub record BooksPiece (old : ManagerView) (tag piece : ℕ) (what : Result Entry Completion)
    (new : ManagerView) : Type 0 where
  pub adapter : Books old.adapter tag piece what new.adapter
  pub same : new ≡ record old { adapter = new.adapter }

-- the tag's piece comes back, and then pieces are started
pub record TellsFinish (old : ManagerView) (tag : ℕ) (told : Told) : Type 0 where
  pub piece : Piece
  pub class : Class
  pub starts : List DeviceLabel
  pub is_out : Contains old.state.pieces piece
  pub is_tag : piece.tag ≡ tag
  pub only_starts : All IsStart starts
  pub no_own : told.own ≡ []
  pub device : told.device ≡ Return piece.number class ∷ starts
  pub holders : told.admitted ≡ old.holders
  pub reserves_none : told.reserves ≡ None

-- a return is told, or the tag is free and nothing happens
abbrev pub FinishReplies : ManagerView → ℕ → Reply → ManagerView → Told → Type 0
FinishReplies old tag OkReply new told = TellsFinish old tag told × SameHandles old new
FinishReplies old tag Ignored new told = IsUnmoved old new told × All (HasOtherTag tag) old.state.pieces
    × SameHandles old new
FinishReplies old tag (HandleReply handle) new told = ⊥
FinishReplies old tag (Requested id) new told = ⊥
FinishReplies old tag (Answered answer) new told = ⊥
FinishReplies old tag (Refused reason bytes) new told = ⊥

-- each fresh piece faults, by rising tags, and nothing else is told
pub record TellsReset (old new : ManagerView) (told : Told) : Type 0 where
  pub fresh : List Piece
  pub all_fresh : IsPermutation fresh (filter is_fresh_piece old.state.pieces)
  pub rising : IsStrictlyIncreasing (map piece_tag fresh)
  pub no_own : told.own ≡ []
  pub device : told.device ≡ map fault_of fresh
  pub ends_none : EndsNone told
  pub holders : told.admitted ≡ old.holders
  pub reserves_none : told.reserves ≡ None
  pub handles : SameHandles old new

-- A RIGHT STEP

-- an answer is that of this open request
abbrev pub is_answer_of : Holder → Answer → Bool
is_answer_of holder answer = answer.number == holder.number

-- what a slot holds after these answers: its request, unless that was answered
abbrev pub unless_answered : List Answer → Option Holder → Option Holder
unless_answered answers None = None
unless_answered answers (Some holder) = if list_any (is_answer_of holder) answers then None else Some holder

-- for a write more may be reserved, in runs with one of its sectors; for nothing else anything is
abbrev pub ReservesFor : Option Need → AdapterView → AdapterView → Type 0
ReservesFor None old new = new ≡ old
ReservesFor (Some (Write, extent)) old new = ReservesMore old new × ReservesNear old extent new
ReservesFor (Some (Read, extent)) old new = new ≡ old
ReservesFor (Some (Flush, extent)) old new = new ≡ old

-- no table grew or shrank, unless memory was asked for
abbrev pub SamePlacesUnless : Option Need → ℕ → ℕ → Type 0
SamePlacesUnless None old new = new ≡ old
SamePlacesUnless (Some need) old new = Unit {0}

-- the adapter moves by these labels, and where it was reset it notes that behind them
abbrev pub MovesWith : Bool → AdapterView → List DeviceLabel → AdapterView → Type 0
MovesWith false old labels new = MovesByAll old labels new
MovesWith true old labels new = (faulted : AdapterView) × MovesByAll old labels faulted × NotesReset faulted new

-- the adapter reserves for what was asked for, and then moves by these labels, which are then taken from its record
pub record AdapterMoves (reset : Bool) (reserves : Option Need) (old : AdapterView) (labels : List DeviceLabel)
    (new : AdapterView) : Type 0 where
  pub first : AdapterView
  pub before : ReservesFor reserves old first
  pub moved : AdapterView
  pub moves : MovesWith reset first labels moved
  pub taken : new ≡ record moved { labels = [] }

-- what is told leads from the old view to the new one: its labels are a run of the machine, and the device's labels
-- among them are all that the adapter did, but for what it reserved
pub record IsRightBy (reset : Bool) (told : Told) (old new : ManagerView) : Type 0 where
  pub in_order : new.labels ≡ labels_of told
  pub rising : AreRising (map answer_number told.answers)
  pub same_rules : new.rules ≡ old.rules
  pub same_keeps : new.keeps ≡ old.keeps
  pub places : SamePlacesUnless told.reserves old.places new.places
  pub run : Run old.rules old.state new.labels new.state
  pub adapter : AdapterMoves reset told.reserves old.adapter told.device new.adapter
  pub outside : KeepsOutside old.rules.partitions old.adapter new.adapter
  -- an open request keeps its slot and its handle until it is answered
  pub holders : (slot : ℕ) → slice_index_or new.holders slot None
      ≡ unless_answered told.answers (slice_index_or told.admitted slot None)
  -- each answer of an admitted request waits to be taken
  pub untaken : IsPermutation new.answers (told.answers ++ old.answers)

-- a step that is right: something can be told that fits the call's row and leads from the old view to the new one
pub record IsRight (Row : Told → Type 0) (old new : ManagerView) : Type 0 where
  pub told : Told
  pub replies : Row told
  pub by : IsRightBy false told old new

-- for any buffer of the length that is asked for, a call without it was refused so
abbrev pub Refuses : ManagerView → Handle → Asked → Refusal → ManagerView → Type 0
Refuses old handle asked reason new = (buffer : List ℕ) → asked.length ≡ length buffer
    → IsRight (CallReplies old handle (call_on old handle asked.kind asked.offset buffer asked.through) buffer (Refused reason buffer) new) old new

-- a reset that is right
pub record IsRightReset (old new : ManagerView) : Type 0 where
  pub told : Told
  pub replies : TellsReset old new told
  pub by : IsRightBy true told old new

-- WHAT HOLDS BETWEEN STEPS

-- an open request has a slot, found by its number
abbrev pub HasSlot : List (Option Holder) → OpenRequest → Type 0
HasSlot holders o = (slot : ℕ) × (holder : Holder) × (slice_index_or holders slot None ≡ Some holder)
    × (holder.number ≡ o.number)

-- a piece is on a tag below this one
abbrev pub IsOnTag : ℕ → Piece → Type 0
IsOnTag depth piece = piece.tag < depth

-- what is shown fits together
pub record FitsTogether (v : ManagerView) : Type 0 where
  -- the arrays and the pieces out are read from the adapter
  pub read : IsRead v.rules v.state v.adapter
  -- each piece out is on a tag of the adapter
  pub on_tags : All (IsOnTag v.rules.depth) v.state.pieces
  -- each open request has a slot, each slot in use an open request, and no two slots the same
  pub has_slot : All (HasSlot v.holders) v.state.requests
  pub has_request : (slot : ℕ) (holder : Holder) → slice_index_or v.holders slot None ≡ Some holder
      → Contains (map request_number v.state.requests) holder.number
  pub one_slot : (slot other : ℕ) (holder same : Holder) → slice_index_or v.holders slot None ≡ Some holder
      → slice_index_or v.holders other None ≡ Some same → holder.number ≡ same.number → slot ≡ other
  pub rising : AreRising (map answer_number v.answers)
  -- nothing is paused while removing
  pub one_state : IsTrue v.state.removing → IsFalse v.state.paused
  pub removed_last : IsTrue v.state.removed → IsTrue v.state.removing

-- the earliest label leaves, as memory has it
abbrev pub TakesShown : ManagerView → Option Label → ManagerView → Type 0
TakesShown old None new = (old.labels ≡ []) × (new ≡ old)
TakesShown old (Some shown) new = (rest : List Label) × (label : Label) × (old.labels ≡ label ∷ rest)
    × (shown ≡ in_memory old.rules.keeps_bytes label) × (new ≡ record old { labels = rest })

-- the earliest label leaves
abbrev pub TakesLabel : ManagerView → Option Label → ManagerView → Type 0
TakesLabel old None new = (old.labels ≡ []) × (new ≡ old)
TakesLabel old (Some label) new = (rest : List Label) × (old.labels ≡ label ∷ rest)
    × (new ≡ record old { labels = rest })

-- the waiting answer with the lowest number leaves
abbrev pub TakesAnswer : ManagerView → Option Answer → ManagerView → Type 0
TakesAnswer old None new = (old.answers ≡ []) × (new ≡ old)
TakesAnswer old (Some answer) new =
    (rest : List Answer) × (old.answers ≡ answer ∷ rest) × All (IsAbove answer.number) (map answer_number rest)
    × (new ≡ record old { answers = rest })

-- the answer that is taken next, if one waits
abbrev pub IsNextAnswer : ManagerView → Option Answer → Type 0
IsNextAnswer v next = (after : ManagerView) × TakesAnswer v next after

-- the answer is that of another request
abbrev pub IsOfAnother : ℕ → Answer → Type 0
IsOfAnother number answer = answer.number ≢ number

-- the waiting answer of a number leaves, if there is one
abbrev pub TakesAnswerOf : ManagerView → ℕ → Option Answer → ManagerView → Type 0
TakesAnswerOf old number None new = All (IsOfAnother number) old.answers × (new ≡ old)
TakesAnswerOf old number (Some answer) new =
    (at : ℕ) × (slice_get old.answers at ≡ Some answer) × (answer.number ≡ number)
    × (new ≡ record old { answers = remove old.answers at })
