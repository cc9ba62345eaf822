-- Which steps leave the device's pause as it is, and what that comes to once nothing is out.
use Rattle.serving.proofs.Common.{◌≡◌, ◌≢◌, ◌⊎◌, inl, inr, ℕ, Bool, true, false, List, [], ◌∷◌, ◌++◌, map, Option, Some, None, IsFalse, refl, sym, ap, subst, ◌∙◌, All, IsNone, All-nil, All-cons, All-head, All-tail, All-append, All-contains, NtStatus, DeviceLabel, ClientRequest, Label, Rules, OpenRequest, Owed, State, Admits, refusal, Settled, DeviceStep, Step, Run, as_label, CallsAreAnswered, answer_numbers, owed_number, request_number, Answer, Handle, Refusal, InvalidHandle, InvalidParameter, DeletePending, DeviceBusy, InsufficientResources, InvalidDeviceRequest, NotFound, Reply, status_of_refusal, ManagerView, Event, Open, Close, Read, Write, Flush, CancelIoEx, Mark, QueryRemove, CancelRemove, Remove, SurpriseRemove, Act, Finish, Reset, IsTransferEvent, IsRight, answers_of}
use Rattle.srb.specs.declared.DeviceLabel.TheVariants.{Start, Act as ActLabel, Fault, Return}
use Rattle.machine.specs.declared.Label.TheVariants.{Call, Device, Answer as AnswerLabel, Cancel, Pause, Resume, Remove as RemoveLabel, Surprise, Removed as RemovedLabel}
use Rattle.io_manager.specs.declared.Reply.TheVariants.{Handle as HandleReply, Ok as Done, Request as Requested, Answered, Refused, Ignored}
use Rattle.io_manager.specs.Right.{ActReplies, CallReplies, FinishReplies, IsRight as IsRightCall, IsRightBy, IsAnsweredAtOnce, IsTurnedAway, OpenReplies, Told, TransferReplies, as_answer, end_labels, tells_nothing}

-- LABELS THAT LEAVE THE PAUSE

abbrev pub IsSteady : Label → Type 0
IsSteady (Call number q) = Unit {0}
IsSteady (Device label) = Unit {0}
IsSteady (AnswerLabel number status informed bytes) = Unit {0}
IsSteady RemovedLabel = Unit {0}
IsSteady _ = ⊥

steady_admits : (rules : Rules) (s : State) (number : ℕ) (q : ClientRequest) (answer : Option NtStatus) (s' : State) → Admits rules s number q answer s' → s'.paused ≡ s.paused
steady_admits rules s number q None s' h = h.after.paused
steady_admits rules s number q (Some status) s' h = h.after.paused

steady_device : (rules : Rules) (s : State) (label : DeviceLabel) (s' : State) → DeviceStep rules s label s' → s'.paused ≡ s.paused
steady_device rules s (Start piece tag block) s' h = h.after.paused
steady_device rules s (ActLabel piece bytes) s' h = h.after.paused
steady_device rules s (Fault piece) s' h = h.after.paused
steady_device rules s (Return piece class) s' h = h.after.paused

steady_step : (rules : Rules) (s : State) (label : Label) (s' : State) → IsSteady label → Step rules s label s' → s'.paused ≡ s.paused
steady_step rules s (Call number q) s' is (inl h) = steady_admits rules s number q (refusal rules s q) s' h.1.admits
steady_step rules s (Device label) s' is (inl h) = steady_device rules s label s' h.1
steady_step rules s (AnswerLabel number status informed bytes) s' is (inl h) = h.1.answers.after.paused
steady_step rules s RemovedLabel s' is (inl h) = h.1.after.paused
steady_step rules s (AnswerLabel number status informed bytes) s' is (inr h) = h.after.paused
steady_step rules s (Call number q) s' is (inr h) = absurd h
steady_step rules s (Device label) s' is (inr h) = absurd h
steady_step rules s RemovedLabel s' is (inr h) = absurd h
steady_step rules s (Cancel number) s' is h = absurd is
steady_step rules s Pause s' is h = absurd is
steady_step rules s Resume s' is h = absurd is
steady_step rules s RemoveLabel s' is h = absurd is
steady_step rules s Surprise s' is h = absurd is

steady_run : (rules : Rules) (s : State) (labels : List Label) (s' : State) → All IsSteady labels → Run rules s labels s' → s'.paused ≡ s.paused
steady_run rules s [] s' all run = sym run.paused
steady_run rules s (label ∷ labels) s' all run =
    steady_run rules run.0 labels s' (All-tail IsSteady label labels all) run.2 ∙ steady_step rules s label run.0 (All-head IsSteady label labels all) run.1

-- STEPS

steady_devices : (ds : List DeviceLabel) → All IsSteady (map as_label ds)
steady_devices [] = All-nil IsSteady
steady_devices (d ∷ ds) = All-cons IsSteady (Device d) (map as_label ds) tt (steady_devices ds)

steady_answers : (xs : List Answer) → All IsSteady (map as_answer xs)
steady_answers [] = All-nil IsSteady
steady_answers (x ∷ xs) = All-cons IsSteady (as_answer x) (map as_answer xs) tt (steady_answers xs)

steady_end : (ends : Bool) → All IsSteady (end_labels ends)
steady_end true = All-cons IsSteady RemovedLabel [] tt (All-nil IsSteady)
steady_end false = All-nil IsSteady

-- where a step's own labels leave it, the step does
steady_by : (old new : ManagerView) (told : Told) → All IsSteady told.own → IsRightBy false told old new → new.state.paused ≡ old.state.paused
steady_by old new told own by =
    steady_run old.rules old.state new.labels new.state
    (subst (λ (ls : List Label). All IsSteady ls) (sym by.in_order)
    (All-append IsSteady _ _ (All-append IsSteady _ _ (All-append IsSteady _ _ own (steady_devices told.device)) (steady_answers told.answers)) (steady_end told.ends))) by.run

none_own : (told : Told) → told.own ≡ [] → All IsSteady told.own
none_own told e = subst (λ (ls : List Label). All IsSteady ls) (sym e) (All-nil IsSteady)

nothing_own : (old : ManagerView) (told : Told) → told ≡ tells_nothing old → All IsSteady told.own
nothing_own old told e = none_own told (ap (λ (t : Told). t.own) e)

pub act_steady : (old new : ManagerView) (tag : ℕ) (reply : Reply) → IsRightCall (ActReplies old tag reply new) old new → new.state.paused ≡ old.state.paused
act_steady old new tag Done h = steady_by old new h.told (none_own h.told h.replies.0.no_own) h.by
act_steady old new tag Ignored h = ap (λ (s : State). s.paused) h.replies.0.same_state
act_steady old new tag (HandleReply given) h = absurd h.replies
act_steady old new tag (Requested id) h = absurd h.replies
act_steady old new tag (Answered answer) h = absurd h.replies
act_steady old new tag (Refused reason bytes) h = absurd h.replies

pub finish_steady : (old new : ManagerView) (tag : ℕ) (reply : Reply) → IsRightCall (FinishReplies old tag reply new) old new → new.state.paused ≡ old.state.paused
finish_steady old new tag Done h = steady_by old new h.told (none_own h.told h.replies.0.no_own) h.by
finish_steady old new tag Ignored h = ap (λ (s : State). s.paused) h.replies.0.same_state
finish_steady old new tag (HandleReply given) h = absurd h.replies
finish_steady old new tag (Requested id) h = absurd h.replies
finish_steady old new tag (Answered answer) h = absurd h.replies
finish_steady old new tag (Refused reason bytes) h = absurd h.replies

pub open_steady : (old new : ManagerView) (partition : ℕ) (reply : Reply) → IsRightCall (OpenReplies old partition reply new) old new → new.state.paused ≡ old.state.paused
open_steady old new partition (HandleReply given) h = ap (λ (s : State). s.paused) h.replies.0.same_state
open_steady old new partition (Refused reason bytes) h = ap (λ (s : State). s.paused) h.replies.1.unmoved.same_state
open_steady old new partition Done h = absurd h.replies
open_steady old new partition (Requested id) h = absurd h.replies
open_steady old new partition (Answered answer) h = absurd h.replies
open_steady old new partition Ignored h = absurd h.replies

-- the label of a call, and of its answer where it is answered at once
one_call : (told : Told) (number : ℕ) (q : ClientRequest) → told.own ≡ Call number q ∷ [] → All IsSteady told.own
one_call told number q e = subst (λ (ls : List Label). All IsSteady ls) (sym e) (All-cons IsSteady (Call number q) [] tt (All-nil IsSteady))

call_answered : (told : Told) (number : ℕ) (q : ClientRequest) (status : NtStatus) → told.own ≡ Call number q ∷ AnswerLabel number status 0 [] ∷ [] → All IsSteady told.own
call_answered told number q status e =
    subst (λ (ls : List Label). All IsSteady ls) (sym e)
    (All-cons IsSteady (Call number q) (AnswerLabel number status 0 [] ∷ []) tt (All-cons IsSteady (AnswerLabel number status 0 []) [] tt (All-nil IsSteady)))

turned_own : (old : ManagerView) (q : ClientRequest) (reason : Refusal) (new : ManagerView) (told : Told)
    → IsAnsweredAtOnce old q (status_of_refusal reason) new told ⊎ IsTurnedAway old q reason new told → All IsSteady told.own
turned_own old q reason new told (inl h) = call_answered told _ _ _ (ap (λ (t : Told). t.own) h.tells)
turned_own old q DeviceBusy new told (inr h) = nothing_own old told h.1.nothing
turned_own old q InsufficientResources new told (inr h) = none_own told (ap (λ (t : Told). t.own) h.2.nothing)
turned_own old q InvalidHandle new told (inr h) = absurd h
turned_own old q InvalidParameter new told (inr h) = absurd h
turned_own old q DeletePending new told (inr h) = absurd h
turned_own old q InvalidDeviceRequest new told (inr h) = absurd h
turned_own old q NotFound new told (inr h) = absurd h

own_steady : (old : ManagerView) (handle : Handle) (q : ClientRequest) (buffer : List ℕ) (reply : Reply) (new : ManagerView) (told : Told) → TransferReplies old handle q buffer reply new told → All IsSteady told.own
own_steady old handle q buffer (Requested id) new told h = one_call told _ _ h.own
own_steady old handle q buffer (Answered answer) new told h = call_answered told _ _ _ (ap (λ (t : Told). t.own) h.0.tells)
own_steady old handle q buffer (Refused reason bytes) new told h = turned_own old q reason new told h.1
own_steady old handle q buffer (HandleReply given) new told h = absurd h
own_steady old handle q buffer Done new told h = absurd h
own_steady old handle q buffer Ignored new told h = absurd h

call_steady : (old new : ManagerView) (handle : Handle) (q : ClientRequest) (buffer : List ℕ) (reply : Reply) → IsRightCall (CallReplies old handle q buffer reply new) old new → new.state.paused ≡ old.state.paused
call_steady old new handle q buffer reply h = steady_by old new h.told (own_steady old handle q buffer reply new h.told h.replies.replies) h.by

pub asked_steady : (old new : ManagerView) (event : Event) (reply : Reply) → IsTransferEvent event → IsRight old event reply new → new.state.paused ≡ old.state.paused
asked_steady old new (Read handle offset buffer) reply is h = call_steady old new handle _ buffer reply h
asked_steady old new (Write handle offset bytes through) reply is h = call_steady old new handle _ bytes reply h
asked_steady old new (Flush handle) reply is h = call_steady old new handle _ [] reply h
asked_steady old new (Open partition) reply is h = absurd is
asked_steady old new (Close handle) reply is h = absurd is
asked_steady old new (CancelIoEx handle target) reply is h = absurd is
asked_steady old new (Mark number) reply is h = absurd is
asked_steady old new QueryRemove reply is h = absurd is
asked_steady old new CancelRemove reply is h = absurd is
asked_steady old new Remove reply is h = absurd is
asked_steady old new SurpriseRemove reply is h = absurd is
asked_steady old new (Act tag) reply is h = absurd is
asked_steady old new (Finish tag) reply is h = absurd is
asked_steady old new Reset reply is h = absurd is

-- ONCE NOTHING IS OUT

-- the label is no answer to this request
abbrev pub IsNoAnswerTo : ℕ → Label → Type 0
IsNoAnswerTo number (AnswerLabel n status informed bytes) = n ≢ number
IsNoAnswerTo number _ = Unit {0}

abbrev IsOther : ℕ → ℕ → Type 0
IsOther number n = n ≢ number

other_numbers : (number : ℕ) (labels : List Label) → All (IsNoAnswerTo number) (answers_of labels) → All (IsOther number) (answer_numbers labels)
other_numbers number [] h = All-nil (IsOther number)
other_numbers number (AnswerLabel n status informed bytes ∷ ls) h =
    let it : Label = AnswerLabel n status informed bytes in
    All-cons (IsOther number) n (answer_numbers ls) (All-head (IsNoAnswerTo number) it (answers_of ls) h) (other_numbers number ls (All-tail (IsNoAnswerTo number) it (answers_of ls) h))
other_numbers number (Call n q ∷ ls) h = other_numbers number ls h
other_numbers number (Device l ∷ ls) h = other_numbers number ls h
other_numbers number (Cancel n ∷ ls) h = other_numbers number ls h
other_numbers number (Pause ∷ ls) h = other_numbers number ls h
other_numbers number (Resume ∷ ls) h = other_numbers number ls h
other_numbers number (RemoveLabel ∷ ls) h = other_numbers number ls h
other_numbers number (Surprise ∷ ls) h = other_numbers number ls h
other_numbers number (RemovedLabel ∷ ls) h = other_numbers number ls h

none_awaited : (owed : Option Owed) (requests : List OpenRequest) → IsNone owed → requests ≡ [] → owed_number owed ++ map request_number requests ≡ []
none_awaited None [] none e = refl
none_awaited None (o ∷ os) none e = absurd (let k : ◌≡◌ {A = List OpenRequest} (o ∷ os) [] = e in cc)
none_awaited (Some owed) os none e = absurd (let k : ◌≡◌ {A = Bool} true false = none in cc)

-- a call that came first was answered
pub called_unanswered : CallsAreAnswered → (rules : Rules) (s : State) (number : ℕ) (q : ClientRequest) (labels : List Label) (s' : State) → Run rules s (Call number q ∷ labels) s' → Settled rules s' → s'.pieces ≡ [] → IsFalse s'.paused
    → All (IsNoAnswerTo number) (answers_of labels) → ⊥
called_unanswered law rules s number q labels s' run settled none_out unpaused none =
    All-contains (IsOther number) (answer_numbers labels) number (other_numbers number labels none)
    (law rules s [] number q labels s' (none_awaited s'.owed s'.requests settled.none_owed (settled.idle_unpaused none_out unpaused)) run) refl
