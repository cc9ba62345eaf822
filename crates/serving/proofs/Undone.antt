-- Steps that tell neither an act nor a fault.
use Rattle.serving.proofs.Common.{◌≡◌, inl, inr, ℕ, true, false, List, [], ◌∷◌, ◌++◌, map, refl, sym, subst, ap, All, All-nil, All-cons, All-head, All-tail, All-append, Answer, ManagerView, ClientRequest, Handle, Reply, Refusal, Label, as_label, Event, Open, Close, Read, Write, Flush, CancelIoEx, Mark, QueryRemove, CancelRemove, Remove, SurpriseRemove, Act, Finish, Reset, IsRight, IsTransferEvent}
use Rattle.std.specs.Prelude.{Bool}
use Rattle.srb.specs.declared.DeviceLabel.{DeviceLabel}
use Rattle.srb.specs.declared.DeviceLabel.TheVariants.{Start, Act as ActLabel, Fault, Return}
use Rattle.machine.specs.Sending.{IsStart}
use Rattle.io_manager.specs.declared.Refusal.TheVariants.{InvalidHandle, InvalidParameter, DeletePending, DeviceBusy, InsufficientResources, InvalidDeviceRequest, NotFound}
use Rattle.io_manager.specs.declared.Reply.TheVariants.{Handle as HandleReply, Ok as Done, Request as Requested, Answered, Refused, Ignored}
use Rattle.io_manager.specs.Right.{FinishReplies, IsTurnedAway, OpenReplies, Told, TransferReplies, as_answer, end_labels, labels_of, tells_nothing}
use Rattle.file_sessions.specs.Runs.{HasNoDeed}

-- the event has no piece act, and resets nothing; of some events nothing is asked here
abbrev pub Undoes : Event → Type 0
Undoes (Open partition) = Unit {0}
Undoes (Read handle offset buffer) = Unit {0}
Undoes (Write handle offset bytes through) = Unit {0}
Undoes (Flush handle) = Unit {0}
Undoes (Finish tag) = Unit {0}
Undoes _ = ⊥

pub transfer_undoes : (event : Event) → IsTransferEvent event → Undoes event
transfer_undoes (Read handle offset buffer) h = tt
transfer_undoes (Write handle offset bytes through) h = tt
transfer_undoes (Flush handle) h = tt
transfer_undoes (Open partition) h = absurd h
transfer_undoes (Close handle) h = absurd h
transfer_undoes (CancelIoEx handle target) h = absurd h
transfer_undoes (Mark number) h = absurd h
transfer_undoes QueryRemove h = absurd h
transfer_undoes CancelRemove h = absurd h
transfer_undoes Remove h = absurd h
transfer_undoes SurpriseRemove h = absurd h
transfer_undoes (Act tag) h = absurd h
transfer_undoes (Finish tag) h = absurd h
transfer_undoes Reset h = absurd h

-- LABELS

abbrev AreBare : List Label → Type 0
AreBare labels = All HasNoDeed labels

starts_bare : (ls : List DeviceLabel) → All IsStart ls → AreBare (map as_label ls)
starts_bare [] all = All-nil HasNoDeed
starts_bare (Start n tag block ∷ ls) all = All-cons HasNoDeed (as_label (Start n tag block)) (map as_label ls) tt (starts_bare ls (All-tail IsStart (Start n tag block) ls all))
starts_bare (ActLabel n bytes ∷ ls) all = absurd (All-head IsStart (ActLabel n bytes) ls all)
starts_bare (Fault n ∷ ls) all = absurd (All-head IsStart (Fault n) ls all)
starts_bare (Return n class ∷ ls) all = absurd (All-head IsStart (Return n class) ls all)

answers_bare : (xs : List Answer) → AreBare (map as_answer xs)
answers_bare [] = All-nil HasNoDeed
answers_bare (x ∷ xs) = All-cons HasNoDeed (as_answer x) (map as_answer xs) tt (answers_bare xs)

ends_bare : (b : Bool) → AreBare (end_labels b)
ends_bare true = All-cons HasNoDeed _ [] tt (All-nil HasNoDeed)
ends_bare false = All-nil HasNoDeed

told_bare : (t : Told) → AreBare t.own → AreBare (map as_label t.device) → AreBare (labels_of t)
told_bare t own device =
    All-append HasNoDeed ((t.own ++ map as_label t.device) ++ map as_answer t.answers) (end_labels t.ends)
    (All-append HasNoDeed (t.own ++ map as_label t.device) (map as_answer t.answers) (All-append HasNoDeed t.own (map as_label t.device) own device) (answers_bare t.answers))
    (ends_bare t.ends)

telling : (t : Told) (own : List Label) (device : List DeviceLabel) → t.own ≡ own → t.device ≡ device → AreBare own → AreBare (map as_label device) → AreBare (labels_of t)
telling t own device own_is device_is o d =
    told_bare t (subst AreBare (sym own_is) o) (subst (λ (ls : List DeviceLabel). AreBare (map as_label ls)) (sym device_is) d)

nothing : (old : ManagerView) (t : Told) → t ≡ tells_nothing old → AreBare (labels_of t)
nothing old t is = telling t [] [] (ap (λ (x : Told). x.own) is) (ap (λ (x : Told). x.device) is) (All-nil HasNoDeed) (All-nil HasNoDeed)

one_bare : (l : Label) → HasNoDeed l → AreBare (l ∷ [])
one_bare l h = All-cons HasNoDeed l [] h (All-nil HasNoDeed)

two_bare : (l m : Label) → HasNoDeed l → HasNoDeed m → AreBare (l ∷ m ∷ [])
two_bare l m h k = All-cons HasNoDeed l (m ∷ []) h (one_bare m k)

-- ROWS

turned_bare : (old : ManagerView) (q : ClientRequest) (reason : Refusal) (new : ManagerView) (t : Told) → IsTurnedAway old q reason new t → AreBare (labels_of t)
turned_bare old q DeviceBusy new t h = nothing old t h.1.nothing
turned_bare old q InsufficientResources new t h =
    telling t [] [] (ap (λ (x : Told). x.own) h.2.nothing) (ap (λ (x : Told). x.device) h.2.nothing) (All-nil HasNoDeed) (All-nil HasNoDeed)
turned_bare old q InvalidHandle new t h = absurd h
turned_bare old q InvalidParameter new t h = absurd h
turned_bare old q DeletePending new t h = absurd h
turned_bare old q InvalidDeviceRequest new t h = absurd h
turned_bare old q NotFound new t h = absurd h

transfer_bare : (old : ManagerView) (handle : Handle) (q : ClientRequest) (buffer : List ℕ) (reply : Reply) (new : ManagerView) (t : Told) → TransferReplies old handle q buffer reply new t → AreBare (labels_of t)
transfer_bare old handle q buffer (Requested id) new t h = telling t _ t.device h.own refl (one_bare _ tt) (starts_bare t.device h.only_starts)
transfer_bare old handle q buffer (Answered answer) new t h =
    telling t _ [] (ap (λ (x : Told). x.own) h.0.tells) (ap (λ (x : Told). x.device) h.0.tells) (two_bare _ _ tt tt) (All-nil HasNoDeed)
transfer_bare old handle q buffer (Refused reason bytes) new t (is, inl h) =
    telling t _ [] (ap (λ (x : Told). x.own) h.tells) (ap (λ (x : Told). x.device) h.tells) (two_bare _ _ tt tt) (All-nil HasNoDeed)
transfer_bare old handle q buffer (Refused reason bytes) new t (is, inr h) = turned_bare old q reason new t h
transfer_bare old handle q buffer (HandleReply given) new t h = absurd h
transfer_bare old handle q buffer Done new t h = absurd h
transfer_bare old handle q buffer Ignored new t h = absurd h

open_bare : (old : ManagerView) (partition : ℕ) (reply : Reply) (new : ManagerView) (t : Told) → OpenReplies old partition reply new t → AreBare (labels_of t)
open_bare old partition (HandleReply handle) new t h = nothing old t h.0.nothing
open_bare old partition (Refused reason bytes) new t h = nothing old t h.1.unmoved.nothing
open_bare old partition Done new t h = absurd h
open_bare old partition (Requested id) new t h = absurd h
open_bare old partition (Answered answer) new t h = absurd h
open_bare old partition Ignored new t h = absurd h

finish_bare : (old : ManagerView) (tag : ℕ) (reply : Reply) (new : ManagerView) (t : Told) → FinishReplies old tag reply new t → AreBare (labels_of t)
finish_bare old tag Done new t h =
    telling t [] (Return h.0.piece.number h.0.class ∷ h.0.starts) h.0.no_own h.0.device (All-nil HasNoDeed)
    (All-cons HasNoDeed (as_label (Return h.0.piece.number h.0.class)) (map as_label h.0.starts) tt (starts_bare h.0.starts h.0.only_starts))
finish_bare old tag Ignored new t h = nothing old t h.0.nothing
finish_bare old tag (HandleReply handle) new t h = absurd h
finish_bare old tag (Requested id) new t h = absurd h
finish_bare old tag (Answered answer) new t h = absurd h
finish_bare old tag (Refused reason bytes) new t h = absurd h

in_order : (t : Told) (new : ManagerView) → new.labels ≡ labels_of t → AreBare (labels_of t) → AreBare new.labels
in_order t new is h = subst AreBare (sym is) h

pub no_deeds : (old : ManagerView) (event : Event) (reply : Reply) (new : ManagerView) → Undoes event → IsRight old event reply new → All HasNoDeed new.labels
no_deeds old (Open partition) reply new h right = in_order right.told new right.by.in_order (open_bare old partition reply new right.told right.replies)
no_deeds old (Read handle offset buffer) reply new h right = in_order right.told new right.by.in_order (transfer_bare old handle _ buffer reply new right.told right.replies.replies)
no_deeds old (Write handle offset bytes through) reply new h right = in_order right.told new right.by.in_order (transfer_bare old handle _ bytes reply new right.told right.replies.replies)
no_deeds old (Flush handle) reply new h right = in_order right.told new right.by.in_order (transfer_bare old handle _ [] reply new right.told right.replies.replies)
no_deeds old (Finish tag) reply new h right = in_order right.told new right.by.in_order (finish_bare old tag reply new right.told right.replies)
no_deeds old (Close handle) reply new h right = absurd h
no_deeds old (CancelIoEx handle target) reply new h right = absurd h
no_deeds old (Mark number) reply new h right = absurd h
no_deeds old QueryRemove reply new h right = absurd h
no_deeds old CancelRemove reply new h right = absurd h
no_deeds old Remove reply new h right = absurd h
no_deeds old SurpriseRemove reply new h right = absurd h
no_deeds old (Act tag) reply new h right = absurd h
no_deeds old Reset reply new h right = absurd h
