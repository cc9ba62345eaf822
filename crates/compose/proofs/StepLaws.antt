-- What every right step has: at most one call, want of memory in its place, and its answers.
use Rattle.compose.proofs.Common.{◌≡◌, ◌⊎◌, inl, inr, ℕ, Bool, true, false, List, [], ◌∷◌, ◌++◌, ◌∙◌, Option, Some, None, refl, sym, ap, subst, map, append-nil, All-nil, All-cons, All-append, All-map, All-head, All-tail, NtStatus, when, first_some, DeviceLabel, ClientRequest, Label, as_label, Handle, Id, Refusal, InvalidHandle, InvalidParameter, DeletePending, DeviceBusy, InsufficientResources, InvalidDeviceRequest, NotFound, Reply, ManagerView, call_on, AreRising, Told, answer_number, as_answer, as_cancel, end_labels, labels_of, RefusesAlone, OpenReplies, CloseReplies, CancelReplies, CancelsOne, MarkReplies, PnpReplies, RecallReplies, IsRecalled, ActReplies, FinishReplies, pnp_state, TransferReplies, Event, IsRight, IsTransferEvent, IsNoCall, CallsFirst, StepsCallOnce, StepsTakeNoMemory, ComeToWait, IsSaidAlone, SaysAnswer, StepsLeaveAnswers, answers_in}
use Rattle.std.specs.Prelude.{All, IsPermutation, if◌then◌else◌}
use Rattle.ntstatus.specs.declared.NtStatus.TheVariants.{InvalidParameter as ParameterStatus, DeletePending as PendingStatus, DeviceBusy as BusyStatus, InsufficientResources as ResourcesStatus}
use Rattle.srb.specs.declared.Kind.TheVariants.{Read, Write, Flush}
use Rattle.machine.specs.declared.Label.TheVariants.{Call, Device, Answer as AnswerLabel, Cancel, Pause, Resume, Remove, Surprise, Removed}
use Rattle.pnp.specs.declared.State.{State as PnpState}
use Rattle.pnp.specs.declared.State.TheVariants.{Started, RemovePending, Removing, Removed as GoneState}
use Rattle.pnp.specs.Table.{Event as PnpEvent}
use Rattle.io_manager.specs.declared.Answer.{Answer}
use Rattle.io_manager.specs.declared.Reply.TheVariants.{Handle as HandleReply, Ok as OkReply, Request as Requested, Answered, Refused, Ignored}
use Rattle.compose.specs.declared.Event.TheVariants.{Open, Close, Read as ReadEvent, Write as WriteEvent, Flush as FlushEvent, CancelIoEx, Mark, QueryRemove, CancelRemove, Remove as RemoveEvent, SurpriseRemove, Act, Finish, Reset}

-- OWN LABELS

-- the reply says the one answer of these labels, which has no bytes
record SaysOne (reply : Reply) (own : List Label) : Type 0 where
  answer : Answer
  one : answers_in own ≡ answer ∷ []
  says : SaysAnswer reply answer
  no_bytes : answer.bytes ≡ []

-- a step's own labels: a call comes first; they tell no answer, or one that the reply says, and then the step answers no
-- request that was open
record Own (event : Event) (reply : Reply) (own : List Label) (answers : List Answer) : Type 0 where
  calls : CallsFirst event own
  answered : (answers_in own ≡ []) ⊎ ((answers ≡ []) × SaysOne reply own)

-- cancellations tell no answer
cancels_answer_none : (numbers : List ℕ) → answers_in (map as_cancel numbers) ≡ []
cancels_answer_none [] = refl
cancels_answer_none (number ∷ numbers) = cancels_answer_none numbers

module _ (event : Event) (reply : Reply) (own : List Label) (answers : List Answer) where
  own_none : own ≡ [] → Own event reply own answers
  own_none is = subst (λ ls. Own event reply ls answers) (sym is) (record { calls = tt; answered = inl refl })

  own_one : (label : Label) → own ≡ label ∷ [] → IsNoCall label → answers_in (label ∷ []) ≡ [] → Own event reply own answers
  own_one label is no_call none = subst (λ ls. Own event reply ls answers) (sym is) (record { calls = (inl no_call, All-nil IsNoCall); answered = inl none })

  own_call : (number : ℕ) (q : ClientRequest) → IsTransferEvent event → own ≡ Call number q ∷ [] → Own event reply own answers
  own_call number q transfers is =
      subst (λ ls. Own event reply ls answers) (sym is) (record { calls = (inr transfers, All-nil IsNoCall); answered = inl refl })

  own_answered : (number : ℕ) (q : ClientRequest) (status : NtStatus) → IsTransferEvent event
      → SaysAnswer reply (record { number = number; status = status; information = 0; bytes = [] })
      → own ≡ Call number q ∷ AnswerLabel number status 0 [] ∷ [] → answers ≡ [] → Own event reply own answers
  own_answered number q status transfers says is none =
      subst (λ ls. Own event reply ls answers) (sym is) (record {
        calls = (inr transfers, All-cons IsNoCall (AnswerLabel number status 0 []) [] tt (All-nil IsNoCall));
        answered = inr (
          none,
          record {
            answer = record { number = number; status = status; information = 0; bytes = [] };
            one = refl;
            says = says;
            no_bytes = refl;
          },
        );
      })

  own_cancels : (numbers : List ℕ) → own ≡ map as_cancel numbers → Own event reply own answers
  own_cancels numbers is =
      subst (λ ls. Own event reply ls answers) (sym is) (record { calls = first numbers; answered = inl (cancels_answer_none numbers) })
    where
      first : (numbers : List ℕ) → CallsFirst event (map as_cancel numbers)
      first [] = tt
      first (number ∷ numbers) = (inl tt, All-map IsNoCall as_cancel numbers (λ k d low. tt))

  own_cancel : (marked : Bool) (number : ℕ) → own ≡ (if marked then [] else Cancel number ∷ []) → Own event reply own answers
  own_cancel true number is = own_none is
  own_cancel false number is = own_one (Cancel number) is tt refl

-- ROWS

transfer_own : (event : Event) (old : ManagerView) (handle : Handle) (q : ClientRequest) (buffer : List ℕ) (reply : Reply) (new : ManagerView) (told : Told)
    → IsTransferEvent event → TransferReplies old handle q buffer reply new told → Own event reply told.own told.answers
transfer_own event old handle q buffer (Requested id) new told transfers h = own_call event _ told.own told.answers id.number q transfers h.own
transfer_own event old handle q buffer (Answered answer) new told transfers h =
    own_answered event _ told.own told.answers _ _ _ transfers h.1 (ap (λ (t : Told). t.own) h.0.tells) (ap (λ (t : Told). t.answers) h.0.tells)
transfer_own event old handle q buffer (Refused reason bytes) new told transfers (same, inl h) =
    own_answered event _ told.own told.answers _ _ _ transfers (refl, refl) (ap (λ (t : Told). t.own) h.tells) (ap (λ (t : Told). t.answers) h.tells)
transfer_own event old handle q buffer (Refused DeviceBusy bytes) new told transfers (same, inr h) = own_none event _ told.own told.answers (ap (λ (t : Told). t.own) h.1.nothing)
transfer_own event old handle q buffer (Refused InsufficientResources bytes) new told transfers (same, inr h) =
    own_none event _ told.own told.answers (ap (λ (t : Told). t.own) h.2.nothing)
transfer_own event old handle q buffer (Refused InvalidHandle bytes) new told transfers (same, inr h) = absurd h
transfer_own event old handle q buffer (Refused InvalidParameter bytes) new told transfers (same, inr h) = absurd h
transfer_own event old handle q buffer (Refused DeletePending bytes) new told transfers (same, inr h) = absurd h
transfer_own event old handle q buffer (Refused InvalidDeviceRequest bytes) new told transfers (same, inr h) = absurd h
transfer_own event old handle q buffer (Refused NotFound bytes) new told transfers (same, inr h) = absurd h
transfer_own event old handle q buffer (HandleReply given) new told transfers h = absurd h
transfer_own event old handle q buffer OkReply new told transfers h = absurd h
transfer_own event old handle q buffer Ignored new told transfers h = absurd h

refuses_own : (event : Event) (reply : Reply) (old : ManagerView) (reason why : Refusal) (bytes : List ℕ) (new : ManagerView) (told : Told)
    → RefusesAlone old reason why bytes new told → Own event reply told.own told.answers
refuses_own event reply old reason why bytes new told h = own_none event reply told.own told.answers (ap (λ (t : Told). t.own) h.unmoved.nothing)

open_own : (event : Event) (old : ManagerView) (partition : ℕ) (reply : Reply) (new : ManagerView) (told : Told) → OpenReplies old partition reply new told
    → Own event reply told.own told.answers
open_own event old partition (HandleReply handle) new told h = own_none event _ told.own told.answers (ap (λ (t : Told). t.own) h.0.nothing)
open_own event old partition (Refused reason bytes) new told h = refuses_own event _ old reason reason bytes new told h.1
open_own event old partition OkReply new told h = absurd h
open_own event old partition (Requested id) new told h = absurd h
open_own event old partition (Answered answer) new told h = absurd h
open_own event old partition Ignored new told h = absurd h

close_own : (event : Event) (old : ManagerView) (handle : Handle) (reply : Reply) (new : ManagerView) (told : Told) → CloseReplies old handle reply new told
    → Own event reply told.own told.answers
close_own event old handle OkReply new told h = own_cancels event _ told.own told.answers h.1.numbers h.1.own
close_own event old handle (Refused reason bytes) new told h = refuses_own event _ old reason InvalidHandle bytes new told h.1
close_own event old handle (HandleReply given) new told h = absurd h
close_own event old handle (Requested id) new told h = absurd h
close_own event old handle (Answered answer) new told h = absurd h
close_own event old handle Ignored new told h = absurd h

cancels_one_own : (event : Event) (reply : Reply) (old : ManagerView) (number : ℕ) (told : Told) → CancelsOne old number told → Own event reply told.own told.answers
cancels_one_own event reply old number told h = own_cancel event reply told.own told.answers h.request.cancelled number h.own

cancel_own : (event : Event) (old : ManagerView) (handle : Handle) (target : Option Id) (reply : Reply) (new : ManagerView) (told : Told)
    → CancelReplies old handle target reply new told → Own event reply told.own told.answers
cancel_own event old handle None OkReply new told (is_open, has, h, same) = own_cancels event _ told.own told.answers h.numbers h.own
cancel_own event old handle (Some id) OkReply new told (is_open, has, h, same) = cancels_one_own event _ old id.number told h
cancel_own event old handle target (Refused reason bytes) new told h = refuses_own event _ old reason reason bytes new told h.1
cancel_own event old handle target (HandleReply given) new told h = absurd h
cancel_own event old handle target (Requested id) new told h = absurd h
cancel_own event old handle target (Answered answer) new told h = absurd h
cancel_own event old handle target Ignored new told h = absurd h

mark_own : (event : Event) (old : ManagerView) (number : ℕ) (reply : Reply) (new : ManagerView) (told : Told) → MarkReplies old number reply new told
    → Own event reply told.own told.answers
mark_own event old number OkReply new told h = cancels_one_own event _ old number told h.0
mark_own event old number Ignored new told h = own_none event _ told.own told.answers (ap (λ (t : Told). t.own) h.0.nothing)
mark_own event old number (HandleReply given) new told h = absurd h
mark_own event old number (Requested id) new told h = absurd h
mark_own event old number (Answered answer) new told h = absurd h
mark_own event old number (Refused reason bytes) new told h = absurd h

pnp_own : (event : Event) (old : ManagerView) (call : PnpEvent) (after : PnpState) (label : Label) (reply : Reply) (new : ManagerView) (told : Told)
    → IsNoCall label → answers_in (label ∷ []) ≡ [] → PnpReplies old call after label reply new told → Own event reply told.own told.answers
pnp_own event old call after label OkReply new told no_call none h = own_one event _ told.own told.answers label h.tells.own no_call none
pnp_own event old call after label (Refused reason bytes) new told no_call none h =
    refuses_own event _ old reason InvalidDeviceRequest bytes new told h.refuses
pnp_own event old call after label (HandleReply given) new told no_call none h = absurd h
pnp_own event old call after label (Requested id) new told no_call none h = absurd h
pnp_own event old call after label (Answered answer) new told no_call none h = absurd h
pnp_own event old call after label Ignored new told no_call none h = absurd h

recalled_own : (event : Event) (reply : Reply) (state : PnpState) (old new : ManagerView) (told : Told) → IsRecalled state old new told → Own event reply told.own told.answers
recalled_own event reply Started old new told h = own_none event reply told.own told.answers (ap (λ (t : Told). t.own) h.nothing)
recalled_own event reply RemovePending old new told h = own_one event reply told.own told.answers Resume h.0.own tt refl
recalled_own event reply Removing old new told h = absurd h
recalled_own event reply GoneState old new told h = absurd h

recall_own : (event : Event) (old : ManagerView) (reply : Reply) (new : ManagerView) (told : Told) → RecallReplies old reply new told → Own event reply told.own told.answers
recall_own event old OkReply new told h = recalled_own event _ (pnp_state old.state) old new told h.0
recall_own event old (Refused reason bytes) new told h = refuses_own event _ old reason InvalidDeviceRequest bytes new told h.refuses
recall_own event old (HandleReply given) new told h = absurd h
recall_own event old (Requested id) new told h = absurd h
recall_own event old (Answered answer) new told h = absurd h
recall_own event old Ignored new told h = absurd h

act_own : (event : Event) (old : ManagerView) (tag : ℕ) (reply : Reply) (new : ManagerView) (told : Told) → ActReplies old tag reply new told
    → Own event reply told.own told.answers
act_own event old tag OkReply new told h = own_none event _ told.own told.answers h.0.no_own
act_own event old tag Ignored new told h = own_none event _ told.own told.answers (ap (λ (t : Told). t.own) h.0.nothing)
act_own event old tag (HandleReply handle) new told h = absurd h
act_own event old tag (Requested id) new told h = absurd h
act_own event old tag (Answered answer) new told h = absurd h
act_own event old tag (Refused reason bytes) new told h = absurd h

finish_own : (event : Event) (old : ManagerView) (tag : ℕ) (reply : Reply) (new : ManagerView) (told : Told) → FinishReplies old tag reply new told
    → Own event reply told.own told.answers
finish_own event old tag OkReply new told h = own_none event _ told.own told.answers h.0.no_own
finish_own event old tag Ignored new told h = own_none event _ told.own told.answers (ap (λ (t : Told). t.own) h.0.nothing)
finish_own event old tag (HandleReply handle) new told h = absurd h
finish_own event old tag (Requested id) new told h = absurd h
finish_own event old tag (Answered answer) new told h = absurd h
finish_own event old tag (Refused reason bytes) new told h = absurd h

-- WHAT A STEP TELLS

-- what all right steps have
record Tells (event : Event) (reply : Reply) (old new : ManagerView) : Type 0 where
  told : Told
  own : Own event reply told.own told.answers
  in_order : new.labels ≡ labels_of told
  rising : AreRising (map answer_number told.answers)
  untaken : IsPermutation new.answers (told.answers ++ old.answers)

tells : (old : ManagerView) (event : Event) (reply : Reply) (new : ManagerView) → IsRight old event reply new → Tells event reply old new
tells old (Open partition) reply new h = record { told = h.told; own = open_own _ old partition reply new h.told h.replies; in_order = h.by.in_order; rising = h.by.rising; untaken = h.by.untaken }
tells old (Close handle) reply new h = record { told = h.told; own = close_own _ old handle reply new h.told h.replies; in_order = h.by.in_order; rising = h.by.rising; untaken = h.by.untaken }
tells old (ReadEvent handle offset buffer) reply new h = record {
  told = h.told;
  own = transfer_own (ReadEvent handle offset buffer) old handle (call_on old handle Read offset buffer false) buffer reply new h.told tt h.replies.replies;
  in_order = h.by.in_order;
  rising = h.by.rising;
  untaken = h.by.untaken;
}
tells old (WriteEvent handle offset bytes through) reply new h = record {
  told = h.told;
  own = transfer_own (WriteEvent handle offset bytes through) old handle (call_on old handle Write offset bytes through) bytes reply new h.told tt h.replies.replies;
  in_order = h.by.in_order;
  rising = h.by.rising;
  untaken = h.by.untaken;
}
tells old (FlushEvent handle) reply new h = record {
  told = h.told;
  own = transfer_own (FlushEvent handle) old handle (call_on old handle Flush 0 [] false) [] reply new h.told tt h.replies.replies;
  in_order = h.by.in_order;
  rising = h.by.rising;
  untaken = h.by.untaken;
}
tells old (CancelIoEx handle target) reply new h = record {
  told = h.told;
  own = cancel_own _ old handle target reply new h.told h.replies;
  in_order = h.by.in_order;
  rising = h.by.rising;
  untaken = h.by.untaken;
}
tells old (Mark number) reply new h = record { told = h.told; own = mark_own _ old number reply new h.told h.replies; in_order = h.by.in_order; rising = h.by.rising; untaken = h.by.untaken }
tells old QueryRemove reply new h = record { told = h.told; own = pnp_own _ old _ _ Pause reply new h.told tt refl h.replies; in_order = h.by.in_order; rising = h.by.rising; untaken = h.by.untaken }
tells old CancelRemove reply new h = record { told = h.told; own = recall_own _ old reply new h.told h.replies; in_order = h.by.in_order; rising = h.by.rising; untaken = h.by.untaken }
tells old RemoveEvent reply new h = record { told = h.told; own = pnp_own _ old _ _ Remove reply new h.told tt refl h.replies; in_order = h.by.in_order; rising = h.by.rising; untaken = h.by.untaken }
tells old SurpriseRemove reply new h = record { told = h.told; own = pnp_own _ old _ _ Surprise reply new h.told tt refl h.replies; in_order = h.by.in_order; rising = h.by.rising; untaken = h.by.untaken }
tells old (Act tag) reply new h = record { told = h.told; own = act_own _ old tag reply new h.told h.replies; in_order = h.by.in_order; rising = h.by.rising; untaken = h.by.untaken }
tells old (Finish tag) reply new h = record { told = h.told; own = finish_own _ old tag reply new h.told h.replies; in_order = h.by.in_order; rising = h.by.rising; untaken = h.by.untaken }
tells old Reset reply new (is, h) = record { told = h.told; own = own_none _ reply h.told.own h.told.answers h.replies.no_own; in_order = h.by.in_order; rising = h.by.rising; untaken = h.by.untaken }

-- ONE CALL

ended_no_call : (ends : Bool) → All IsNoCall (end_labels ends)
ended_no_call true = All-cons IsNoCall Removed [] tt (All-nil IsNoCall)
ended_no_call false = All-nil IsNoCall

first_of : (event : Event) (xs ys : List Label) → CallsFirst event xs → All IsNoCall ys → CallsFirst event (xs ++ ys)
first_of event [] [] first none = tt
first_of event [] (y ∷ ys) first none = (inl (All-head IsNoCall y ys none), All-tail IsNoCall y ys none)
first_of event (x ∷ xs) ys first none = (first.0, All-append IsNoCall xs ys first.1 none)

pub steps_call_once : StepsCallOnce
steps_call_once old event reply new right =
    let t : Tells event reply old new = tells old event reply new right in
    subst (CallsFirst event) (sym t.in_order) (
    first_of event ((t.told.own ++ map as_label t.told.device) ++ map as_answer t.told.answers) (end_labels t.told.ends) (
    first_of event (t.told.own ++ map as_label t.told.device) (map as_answer t.told.answers)
    (first_of event t.told.own (map as_label t.told.device) t.own.calls (All-map IsNoCall as_label t.told.device (λ k d low. tt)))
    (All-map IsNoCall as_answer t.told.answers (λ k d low. tt))
    ) (ended_no_call t.told.ends)
    )

-- ANSWERS

answers_append : (xs ys : List Label) → answers_in (xs ++ ys) ≡ answers_in xs ++ answers_in ys
answers_append [] ys = refl
answers_append (AnswerLabel number status informed bytes ∷ xs) ys =
    ap (λ (more : List Answer). record { number = number; status = status; information = informed; bytes = bytes } ∷ more) (answers_append xs ys)
answers_append (Call number q ∷ xs) ys = answers_append xs ys
answers_append (Device label ∷ xs) ys = answers_append xs ys
answers_append (Cancel number ∷ xs) ys = answers_append xs ys
answers_append (Pause ∷ xs) ys = answers_append xs ys
answers_append (Resume ∷ xs) ys = answers_append xs ys
answers_append (Remove ∷ xs) ys = answers_append xs ys
answers_append (Surprise ∷ xs) ys = answers_append xs ys
answers_append (Removed ∷ xs) ys = answers_append xs ys

device_answers_none : (labels : List DeviceLabel) → answers_in (map as_label labels) ≡ []
device_answers_none [] = refl
device_answers_none (label ∷ labels) = device_answers_none labels

answers_again : (answers : List Answer) → answers_in (map as_answer answers) ≡ answers
answers_again [] = refl
answers_again (answer ∷ answers) = ap (λ (more : List Answer). answer ∷ more) (answers_again answers)

ended_answers_none : (ends : Bool) → answers_in (end_labels ends) ≡ []
ended_answers_none true = refl
ended_answers_none false = refl

-- a step tells the answers of its own labels, and then those of requests that were open
answers_told : (told : Told) → answers_in (labels_of told) ≡ answers_in told.own ++ told.answers
answers_told told =
    answers_append ((told.own ++ map as_label told.device) ++ map as_answer told.answers) (end_labels told.ends)
    ∙ ap (λ (more : List Answer). answers_in ((told.own ++ map as_label told.device) ++ map as_answer told.answers) ++ more) (ended_answers_none told.ends)
    ∙ append-nil (answers_in ((told.own ++ map as_label told.device) ++ map as_answer told.answers))
    ∙ answers_append (told.own ++ map as_label told.device) (map as_answer told.answers)
    ∙ (λ i. answers_append told.own (map as_label told.device) i ++ answers_again told.answers i)
    ∙ ap (λ (more : List Answer). (answers_in told.own ++ more) ++ told.answers) (device_answers_none told.device)
    ∙ ap (λ (more : List Answer). more ++ told.answers) (append-nil (answers_in told.own))

leave : (event : Event) (reply : Reply) (old new : ManagerView) (t : Tells event reply old new)
    → ((answers_in t.told.own ≡ []) ⊎ ((t.told.answers ≡ []) × SaysOne reply t.told.own))
    → ComeToWait (answers_in new.labels) old.answers new.answers ⊎ IsSaidAlone reply (answers_in new.labels) old.answers new.answers
leave event reply old new t (inl none) =
    let all : answers_in new.labels ≡ t.told.answers =
    ap answers_in t.in_order ∙ answers_told t.told ∙ ap (λ (more : List Answer). more ++ t.told.answers) none in
    inl (subst (λ (more : List Answer). ComeToWait more old.answers new.answers) (sym all) (record { rising = t.rising; wait = t.untaken }))
leave event reply old new t (inr (none, said)) = inr (record {
  answer = said.answer;
  one = ap answers_in t.in_order ∙ answers_told t.told ∙ ap (λ (more : List Answer). answers_in t.told.own ++ more) none
      ∙ append-nil (answers_in t.told.own) ∙ said.one;
  says = said.says;
  no_bytes = said.no_bytes;
  wait = subst (λ (more : List Answer). IsPermutation new.answers (more ++ old.answers)) none t.untaken;
})

pub steps_leave_answers : StepsLeaveAnswers
steps_leave_answers old event reply new right = let t : Tells event reply old new = tells old event reply new right in leave event reply old new t t.own.answered
