-- A step opens a request just where that was told before it.
use Rattle.compose.proofs.Common.{◌≡◌, inl, inr, ℕ, false, List, [], ◌∷◌, ◌++◌, refl, sym, subst, map, Contains-append_left, Contains-push, ClientRequest, Label, Call, as_label, Handle, Id, InvalidHandle, InvalidParameter, DeletePending, DeviceBusy, InsufficientResources, InvalidDeviceRequest, NotFound, Reply, ManagerView, call_on, would_open, Told, as_answer, end_labels, labels_of, TransferReplies, OpenReplies, CloseReplies, CancelReplies, MarkReplies, QueryReplies, RecallReplies, RemoveReplies, SurpriseReplies, ActReplies, FinishReplies, OpensNone, OpensOrLacksMemory, StepsOpenAsTold}
use Rattle.std.specs.Prelude.{Contains, MatchOption}
use Rattle.srb.specs.declared.Kind.TheVariants.{Read, Write, Flush}
use Rattle.io_manager.specs.declared.Reply.TheVariants.{Handle as HandleReply, Ok as OkReply, Request as Requested, Answered, Refused, Ignored}
use Rattle.compose.specs.declared.Event.TheVariants.{Open, Close, Read as ReadEvent, Write as WriteEvent, Flush as FlushEvent, CancelIoEx, Mark, QueryRemove, CancelRemove, Remove as RemoveEvent, SurpriseRemove, Act, Finish, Reset}

-- a call's label stands in the step
is_called : (told : Told) (number : ℕ) (q : ClientRequest) (labels : List Label) → told.own ≡ Call number q ∷ [] → labels ≡ labels_of told → Contains labels (Call number q)
is_called told number q labels own in_order =
    subst (λ xs. Contains xs (Call number q)) (sym in_order)
    (Contains-append_left ((told.own ++ map as_label told.device) ++ map as_answer told.answers) (end_labels told.ends) _
    (Contains-append_left (told.own ++ map as_label told.device) (map as_answer told.answers) _
    (Contains-append_left told.own (map as_label told.device) _ (subst (λ xs. Contains xs (Call number q)) (sym own) (Contains-push [] (Call number q))))))

as_told : (old : ManagerView) (handle : Handle) (q : ClientRequest) (buffer : List ℕ) (reply : Reply) (new : ManagerView) (told : Told) → new.labels ≡ labels_of told → TransferReplies old handle q buffer reply new told
    → MatchOption (would_open old q) (OpensNone reply) (λ t. OpensOrLacksMemory old t reply new)
as_told old handle q buffer (Requested id) new told in_order h =
    rw (h.numbers_last, h.not_refused) (record { q = q; is_called = is_called told id.number q new.labels h.own in_order; as_told = refl })
as_told old handle q buffer (Answered answer) new told in_order h = rw (h.0.numbers_last, h.0.is_refused) tt
as_told old handle q buffer (Refused reason bytes) new told in_order (same, inl h) = rw (h.numbers_last, h.is_refused) tt
as_told old handle q buffer (Refused DeviceBusy bytes) new told in_order (same, inr h) = rw (h.0) tt
as_told old handle q buffer (Refused InsufficientResources bytes) new told in_order (same, inr h) = rw (h.0, h.1) tt
as_told old handle q buffer (Refused InvalidHandle bytes) new told in_order (same, inr h) = absurd h
as_told old handle q buffer (Refused InvalidParameter bytes) new told in_order (same, inr h) = absurd h
as_told old handle q buffer (Refused DeletePending bytes) new told in_order (same, inr h) = absurd h
as_told old handle q buffer (Refused InvalidDeviceRequest bytes) new told in_order (same, inr h) = absurd h
as_told old handle q buffer (Refused NotFound bytes) new told in_order (same, inr h) = absurd h
as_told old handle q buffer (HandleReply given) new told in_order h = absurd h
as_told old handle q buffer OkReply new told in_order h = absurd h
as_told old handle q buffer Ignored new told in_order h = absurd h

-- a row that has no open request
none : (Row : Reply → Type 0) → ((id : Id) → Row (Requested id) → ⊥) → (reply : Reply) → Row reply → OpensNone reply
none Row not_open (Requested id) row = not_open id row
none Row not_open (HandleReply given) row = tt
none Row not_open OkReply row = tt
none Row not_open (Answered answer) row = tt
none Row not_open (Refused reason bytes) row = tt
none Row not_open Ignored row = tt

pub steps_open_as_told : StepsOpenAsTold
steps_open_as_told old (ReadEvent handle offset buffer) reply new h = as_told old handle (call_on old handle Read offset buffer false) buffer reply new h.told h.by.in_order h.replies.replies
steps_open_as_told old (WriteEvent handle offset bytes through) reply new h = as_told old handle (call_on old handle Write offset bytes through) bytes reply new h.told h.by.in_order h.replies.replies
steps_open_as_told old (FlushEvent handle) reply new h = as_told old handle (call_on old handle Flush 0 [] false) [] reply new h.told h.by.in_order h.replies.replies
steps_open_as_told old (Open partition) reply new h = none (λ r. OpenReplies old partition r new h.told) (λ id row. row) reply h.replies
steps_open_as_told old (Close handle) reply new h = none (λ r. CloseReplies old handle r new h.told) (λ id row. row) reply h.replies
steps_open_as_told old (CancelIoEx handle target) reply new h = none (λ r. CancelReplies old handle target r new h.told) (λ id row. row) reply h.replies
steps_open_as_told old (Mark number) reply new h = none (λ r. MarkReplies old number r new h.told) (λ id row. row) reply h.replies
steps_open_as_told old QueryRemove reply new h = none (λ r. QueryReplies old r new h.told) (λ id row. row) reply h.replies
steps_open_as_told old CancelRemove reply new h = none (λ r. RecallReplies old r new h.told) (λ id row. row) reply h.replies
steps_open_as_told old RemoveEvent reply new h = none (λ r. RemoveReplies old r new h.told) (λ id row. row) reply h.replies
steps_open_as_told old SurpriseRemove reply new h = none (λ r. SurpriseReplies old r new h.told) (λ id row. row) reply h.replies
steps_open_as_told old (Act tag) reply new h = none (λ r. ActReplies old tag r new h.told) (λ id row. row) reply h.replies
steps_open_as_told old (Finish tag) reply new h = none (λ r. FinishReplies old tag r new h.told) (λ id row. row) reply h.replies
steps_open_as_told old Reset reply new h = subst OpensNone (sym h.0) tt
