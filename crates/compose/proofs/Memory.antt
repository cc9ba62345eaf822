-- Which steps ask for memory, and that no other changes the room of a table.
use Rattle.compose.proofs.Common.{◌≡◌, inl, inr, ℕ, Bool, true, false, List, [], ◌∷◌, Option, Some, None, refl, subst, ap, when, first_some, ClientRequest, Handle, Id, Refusal, Reply, ManagerView, Told, OpenReplies, CloseReplies, TransferReplies, CancelReplies, MarkReplies, PnpReplies, RecallReplies, ActReplies, FinishReplies, RefusesAlone, IsRecalled, pnp_state, Event, IsTransferEvent, AsksMemory, TakesNoMemory, StepsTakeNoMemory}
use Rattle.ntstatus.specs.declared.NtStatus.TheVariants.{InvalidParameter as ParameterStatus, DeletePending as PendingStatus, DeviceBusy as BusyStatus, InsufficientResources as ResourcesStatus}
use Rattle.machine.specs.declared.Label.{Label}
use Rattle.pnp.specs.declared.State.{State as PnpState}
use Rattle.pnp.specs.declared.State.TheVariants.{Started, RemovePending, Removing, Removed as GoneState}
use Rattle.pnp.specs.Table.{Event as PnpEvent}
use Rattle.io_manager.specs.declared.Refusal.TheVariants.{InvalidHandle, InvalidParameter, DeletePending, DeviceBusy, InsufficientResources, InvalidDeviceRequest, NotFound}
use Rattle.io_manager.specs.declared.Reply.TheVariants.{Handle as HandleReply, Ok as OkReply, Request as Requested, Answered, Refused, Ignored}
use Rattle.io_manager.specs.Calls.{Need, open_refusal, status_of_refusal}
use Rattle.io_manager.specs.Right.{IsRightBy, IsNotCancelled, SamePlacesUnless}
use Rattle.compose.specs.declared.Event.TheVariants.{Open, Close, Read as ReadEvent, Write as WriteEvent, Flush as FlushEvent, CancelIoEx, Mark, QueryRemove, CancelRemove, Remove as RemoveEvent, SurpriseRemove, Act, Finish, Reset}

-- WHO ASKS

-- a refusal for another reason asks for none
refused_for : (reason : Refusal) (bytes : List ℕ) → (reason ≡ InsufficientResources → ⊥) → AsksMemory (Refused reason bytes) → ⊥
refused_for InsufficientResources bytes other asks = other refl
refused_for InvalidHandle bytes other asks = asks
refused_for InvalidParameter bytes other asks = asks
refused_for DeletePending bytes other asks = asks
refused_for DeviceBusy bytes other asks = asks
refused_for InvalidDeviceRequest bytes other asks = asks
refused_for NotFound bytes other asks = asks

-- what is told of a step that asks for none
record AsksNone (reply : Reply) (told : Told) : Type 0 where
  asks_none : AsksMemory reply → ⊥
  reserves_none : told.reserves ≡ None

refuses_none : (old : ManagerView) (reason why : Refusal) (bytes : List ℕ) (new : ManagerView) (told : Told) → (why ≡ InsufficientResources → ⊥) → RefusesAlone old reason why bytes new told → AsksNone (Refused reason bytes) told
refuses_none old reason why bytes new told other h = record {
  asks_none = refused_for reason bytes (λ is. other (subst (λ r. r ≡ InsufficientResources) h.is_reason is));
  reserves_none = ap (λ (t : Told). t.reserves) h.unmoved.nothing;
}

open_none : (old : ManagerView) (partition : ℕ) (reply : Reply) (new : ManagerView) (told : Told) → OpenReplies old partition reply new told → AsksNone reply told
open_none old partition (HandleReply handle) new told h = record { asks_none = λ asks. asks; reserves_none = ap (λ (t : Told). t.reserves) h.0.nothing }
open_none old partition (Refused reason bytes) new told h =
    refuses_none old reason reason bytes new told (λ is. no_want _ _ _ _ (subst (λ r. open_refusal old partition ≡ Some (status_of_refusal r)) is h.0)) h.1
  where
    no_want : (a b c d : Bool) → first_some (when a BusyStatus ∷ when b PendingStatus ∷ when c ParameterStatus ∷ when d BusyStatus ∷ []) ≡ Some ResourcesStatus → ⊥
    no_want true b c d is = cc
    no_want false true c d is = cc
    no_want false false true d is = cc
    no_want false false false true is = cc
    no_want false false false false is = cc
open_none old partition OkReply new told h = absurd h
open_none old partition (Requested id) new told h = absurd h
open_none old partition (Answered answer) new told h = absurd h
open_none old partition Ignored new told h = absurd h

close_none : (old : ManagerView) (handle : Handle) (reply : Reply) (new : ManagerView) (told : Told) → CloseReplies old handle reply new told → AsksNone reply told
close_none old handle OkReply new told h = record { asks_none = λ asks. asks; reserves_none = h.1.reserves_none }
close_none old handle (Refused reason bytes) new told h = refuses_none old reason InvalidHandle bytes new told clash h.1
  where
    clash : InvalidHandle ≡ InsufficientResources → ⊥
    clash is = cc
close_none old handle (HandleReply given) new told h = absurd h
close_none old handle (Requested id) new told h = absurd h
close_none old handle (Answered answer) new told h = absurd h
close_none old handle Ignored new told h = absurd h

cancel_none : (old : ManagerView) (handle : Handle) (target : Option Id) (reply : Reply) (new : ManagerView) (told : Told) → CancelReplies old handle target reply new told → AsksNone reply told
cancel_none old handle None OkReply new told (is_open, has, h, same) = record { asks_none = λ asks. asks; reserves_none = h.reserves_none }
cancel_none old handle (Some id) OkReply new told (is_open, has, h, same) = record { asks_none = λ asks. asks; reserves_none = h.reserves_none }
cancel_none old handle target (Refused reason bytes) new told h =
    refuses_none old reason reason bytes new told (λ is. subst (λ r. IsNotCancelled old handle target r) is h.0) h.1
cancel_none old handle target (HandleReply given) new told h = absurd h
cancel_none old handle target (Requested id) new told h = absurd h
cancel_none old handle target (Answered answer) new told h = absurd h
cancel_none old handle target Ignored new told h = absurd h

mark_none : (old : ManagerView) (number : ℕ) (reply : Reply) (new : ManagerView) (told : Told) → MarkReplies old number reply new told → AsksNone reply told
mark_none old number OkReply new told h = record { asks_none = λ asks. asks; reserves_none = h.0.reserves_none }
mark_none old number Ignored new told h = record { asks_none = λ asks. asks; reserves_none = ap (λ (t : Told). t.reserves) h.0.nothing }
mark_none old number (HandleReply given) new told h = absurd h
mark_none old number (Requested id) new told h = absurd h
mark_none old number (Answered answer) new told h = absurd h
mark_none old number (Refused reason bytes) new told h = absurd h

not_invalid : InvalidDeviceRequest ≡ InsufficientResources → ⊥
not_invalid is = cc

pnp_none : (old : ManagerView) (call : PnpEvent) (after : PnpState) (label : Label) (reply : Reply) (new : ManagerView) (told : Told) → PnpReplies old call after label reply new told → AsksNone reply told
pnp_none old call after label OkReply new told h = record { asks_none = λ asks. asks; reserves_none = h.tells.reserves_none }
pnp_none old call after label (Refused reason bytes) new told h = refuses_none old reason InvalidDeviceRequest bytes new told not_invalid h.refuses
pnp_none old call after label (HandleReply given) new told h = absurd h
pnp_none old call after label (Requested id) new told h = absurd h
pnp_none old call after label (Answered answer) new told h = absurd h
pnp_none old call after label Ignored new told h = absurd h

recalled_none : (state : PnpState) (old new : ManagerView) (told : Told) → IsRecalled state old new told → told.reserves ≡ None
recalled_none Started old new told h = ap (λ (t : Told). t.reserves) h.nothing
recalled_none RemovePending old new told h = h.0.reserves_none
recalled_none Removing old new told h = absurd h
recalled_none GoneState old new told h = absurd h

recall_none : (old : ManagerView) (reply : Reply) (new : ManagerView) (told : Told) → RecallReplies old reply new told → AsksNone reply told
recall_none old OkReply new told h = record { asks_none = λ asks. asks; reserves_none = recalled_none (pnp_state old.state) old new told h.0 }
recall_none old (Refused reason bytes) new told h = refuses_none old reason InvalidDeviceRequest bytes new told not_invalid h.refuses
recall_none old (HandleReply given) new told h = absurd h
recall_none old (Requested id) new told h = absurd h
recall_none old (Answered answer) new told h = absurd h
recall_none old Ignored new told h = absurd h

act_none : (old : ManagerView) (tag : ℕ) (reply : Reply) (new : ManagerView) (told : Told) → ActReplies old tag reply new told → AsksNone reply told
act_none old tag OkReply new told h = record { asks_none = λ asks. asks; reserves_none = h.0.reserves_none }
act_none old tag Ignored new told h = record { asks_none = λ asks. asks; reserves_none = ap (λ (t : Told). t.reserves) h.0.nothing }
act_none old tag (HandleReply handle) new told h = absurd h
act_none old tag (Requested id) new told h = absurd h
act_none old tag (Answered answer) new told h = absurd h
act_none old tag (Refused reason bytes) new told h = absurd h

finish_none : (old : ManagerView) (tag : ℕ) (reply : Reply) (new : ManagerView) (told : Told) → FinishReplies old tag reply new told → AsksNone reply told
finish_none old tag OkReply new told h = record { asks_none = λ asks. asks; reserves_none = h.0.reserves_none }
finish_none old tag Ignored new told h = record { asks_none = λ asks. asks; reserves_none = ap (λ (t : Told). t.reserves) h.0.nothing }
finish_none old tag (HandleReply handle) new told h = absurd h
finish_none old tag (Requested id) new told h = absurd h
finish_none old tag (Answered answer) new told h = absurd h
finish_none old tag (Refused reason bytes) new told h = absurd h

-- a call that is answered at once, or for which no number is left, asks for none
call_none : (old : ManagerView) (handle : Handle) (q : ClientRequest) (buffer : List ℕ) (reply : Reply) (new : ManagerView) (told : Told) → (AsksMemory reply → ⊥) → TransferReplies old handle q buffer reply new told → told.reserves ≡ None
call_none old handle q buffer (Requested id) new told none h = absurd (none tt)
call_none old handle q buffer (Answered answer) new told none h = ap (λ (t : Told). t.reserves) h.0.tells
call_none old handle q buffer (Refused reason bytes) new told none (same, inl h) = ap (λ (t : Told). t.reserves) h.tells
call_none old handle q buffer (Refused DeviceBusy bytes) new told none (same, inr h) = ap (λ (t : Told). t.reserves) h.1.nothing
call_none old handle q buffer (Refused InsufficientResources bytes) new told none (same, inr h) = absurd (none tt)
call_none old handle q buffer (Refused InvalidHandle bytes) new told none (same, inr h) = absurd h
call_none old handle q buffer (Refused InvalidParameter bytes) new told none (same, inr h) = absurd h
call_none old handle q buffer (Refused DeletePending bytes) new told none (same, inr h) = absurd h
call_none old handle q buffer (Refused InvalidDeviceRequest bytes) new told none (same, inr h) = absurd h
call_none old handle q buffer (Refused NotFound bytes) new told none (same, inr h) = absurd h
call_none old handle q buffer (HandleReply given) new told none h = absurd h
call_none old handle q buffer OkReply new told none h = absurd h
call_none old handle q buffer Ignored new told none h = absurd h

-- THE LAW

-- who asks for no memory leaves each table its room
left_alone : (reset : Bool) (told : Told) (old new : ManagerView) → IsRightBy reset told old new → told.reserves ≡ None → new.places ≡ old.places
left_alone reset told old new by none = subst (λ (r : Option Need). SamePlacesUnless r old.places new.places) none by.places

takes_none : (event : Event) (reply : Reply) (reset : Bool) (told : Told) (old new : ManagerView) → IsRightBy reset told old new → AsksNone reply told → TakesNoMemory event reply old new
takes_none event reply reset told old new by none = record {
  for_transfers = λ asks. absurd (none.asks_none asks);
  same_places = λ other. left_alone reset told old new by none.reserves_none;
}

transfer_takes : (event : Event) (old : ManagerView) (handle : Handle) (q : ClientRequest) (buffer : List ℕ) (reply : Reply) (new : ManagerView) (told : Told) → IsTransferEvent event → IsRightBy false told old new
    → TransferReplies old handle q buffer reply new told → TakesNoMemory event reply old new
transfer_takes event old handle q buffer reply new told transfers by replies = record {
  for_transfers = λ asks. transfers;
  same_places = λ none. left_alone false told old new by (call_none old handle q buffer reply new told none replies);
}

pub steps_take_no_memory : StepsTakeNoMemory
steps_take_no_memory old (Open partition) reply new h = takes_none _ reply false h.told old new h.by (open_none old partition reply new h.told h.replies)
steps_take_no_memory old (Close handle) reply new h = takes_none _ reply false h.told old new h.by (close_none old handle reply new h.told h.replies)
steps_take_no_memory old (ReadEvent handle offset buffer) reply new h = transfer_takes (ReadEvent handle offset buffer) old handle _ buffer reply new h.told tt h.by h.replies.replies
steps_take_no_memory old (WriteEvent handle offset bytes through) reply new h = transfer_takes (WriteEvent handle offset bytes through) old handle _ bytes reply new h.told tt h.by h.replies.replies
steps_take_no_memory old (FlushEvent handle) reply new h = transfer_takes (FlushEvent handle) old handle _ [] reply new h.told tt h.by h.replies.replies
steps_take_no_memory old (CancelIoEx handle target) reply new h = takes_none _ reply false h.told old new h.by (cancel_none old handle target reply new h.told h.replies)
steps_take_no_memory old (Mark number) reply new h = takes_none _ reply false h.told old new h.by (mark_none old number reply new h.told h.replies)
steps_take_no_memory old QueryRemove reply new h = takes_none _ reply false h.told old new h.by (pnp_none old _ _ _ reply new h.told h.replies)
steps_take_no_memory old CancelRemove reply new h = takes_none _ reply false h.told old new h.by (recall_none old reply new h.told h.replies)
steps_take_no_memory old RemoveEvent reply new h = takes_none _ reply false h.told old new h.by (pnp_none old _ _ _ reply new h.told h.replies)
steps_take_no_memory old SurpriseRemove reply new h = takes_none _ reply false h.told old new h.by (pnp_none old _ _ _ reply new h.told h.replies)
steps_take_no_memory old (Act tag) reply new h = takes_none _ reply false h.told old new h.by (act_none old tag reply new h.told h.replies)
steps_take_no_memory old (Finish tag) reply new h = takes_none _ reply false h.told old new h.by (finish_none old tag reply new h.told h.replies)
steps_take_no_memory old Reset reply new (is, h) = takes_none _ reply true h.told old new h.by (record {
  asks_none = λ asks. subst AsksMemory is asks;
  reserves_none = h.replies.reserves_none;
})
