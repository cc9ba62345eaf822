-- What a book needs of a step, from what its stack promises of it.
use Rattle.traced.proofs.Common.{◌≡◌, ◌≢◌, inl, inr, ℕ, zero, suc, ◌+◌, ◌*◌, ◌/◌, ◌<◌, ◌≤◌, ◌==◌, ◌&&◌, ◌||◌, not, if◌then◌else◌, Bool, true, false, List, [], ◌∷◌, ◌++◌, length, map, Option, Some, None, option_map, slice_index_or, refl, sym, ap, ◌∙◌, subst, arith, append_assoc, list_any, Contains-permutation, Contains-append_left, Contains-append_right, Contains-append_cases, All-append, All-head, All-tail, All-cons, All-nil, nat_tests, NtStatus, none_first, DeviceLabel, ClientRequest, Label, Rules, is_transfer, is_in_bounds, place_count, refusal, State, Run, as_label, IsSame-refl, piece_count, restarts, labels_left, labels_brought, BringsNone, StepsUseUp, NoMoreAreLeft, CallsCount, call_numbers, IsReached, RunsGoOn, Id, Refusal, InvalidHandle, InvalidParameter, DeletePending, DeviceBusy, InsufficientResources, InvalidDeviceRequest, NotFound, Reply, ManagerView, Holder, number_limit, are_used_up, call_on, without_bytes, Event, IsRight, sizes_of, labels_of_call, labels_of_transfer, brought_by, unless_number, AreNoCalls, open_at, is_call_event, is_handle_event, admitted_at, unless_told, HaveOneCall, HaveCallsOf, OpensSlot, Serves}
use Rattle.std.specs.Prelude.{IsFalse, Contains, IsPermutation, ◌⊎◌, All, is_none, min}
use mathlib.Core.Logic.{dite}
use native.Mathlib.Decide.{ℕ_discrete}
use Rattle.srb.specs.declared.Kind.TheVariants.{Read as ReadKind, Write as WriteKind, Flush as FlushKind}
use Rattle.machine.specs.declared.Label.TheVariants.{Call, Device, Answer as AnswerLabel, Cancel, Pause, Resume, Remove as RemoveLabel, Surprise, Removed}
use Rattle.pnp.specs.declared.State.{State as PnpState}
use Rattle.pnp.specs.declared.State.TheVariants.{Started, RemovePending, Removing, Removed as RemovedState}
use Rattle.io_manager.specs.declared.Answer.{Answer}
use Rattle.io_manager.specs.declared.Handle.{Handle}
use Rattle.io_manager.specs.declared.Reply.TheVariants.{Handle as HandleReply, Ok as OkReply, Request as Requested, Answered, Refused, Ignored}
use Rattle.io_manager.specs.Right.{as_answer, as_cancel, Told, end_labels, labels_of, tells_nothing, SameHandles, IsSlotOf, IsAdmitted, IsTurnedAway, IsAnsweredAtOnce, OpenReplies, CloseReplies, TransferReplies, CallReplies, CancelReplies, MarkReplies, QueryReplies, RecallReplies, RemoveReplies, SurpriseReplies, ActReplies, FinishReplies, pnp_state, CancelsAllOf, CancelsOne, TellsOne, IsRecalled, TellsReset, is_answer_of, unless_answered, IsRightBy}
use Rattle.compose.specs.declared.Event.TheVariants.{Open, Close, Read, Write, Flush, CancelIoEx, Mark, QueryRemove, CancelRemove, Remove, SurpriseRemove, Act, Finish, Reset}

-- LISTS OF LABELS

-- neither a call, an answer nor a pause
abbrev IsPlain : Label → Type 0
IsPlain (Cancel number) = Unit {0}
IsPlain Resume = Unit {0}
IsPlain RemoveLabel = Unit {0}
IsPlain Surprise = Unit {0}
IsPlain _ = ⊥

cancels_plain : (numbers : List ℕ) → All IsPlain (map as_cancel numbers)
cancels_plain [] = All-nil _
cancels_plain (n ∷ ns) = All-cons IsPlain (Cancel n) (map as_cancel ns) tt (cancels_plain ns)

plain_brings : (labels : List Label) → All IsPlain labels → All BringsNone labels
plain_brings [] all = All-nil _
plain_brings (label ∷ labels) all = All-cons BringsNone label labels (one label (All-head IsPlain label labels all)) (plain_brings labels (All-tail IsPlain label labels all))
  where
    one : (l : Label) → IsPlain l → BringsNone l
    one (Cancel n) h = tt
    one Resume h = tt
    one RemoveLabel h = tt
    one Surprise h = tt
    one _ h = absurd h

devices_bring : (labels : List DeviceLabel) → All BringsNone (map as_label labels)
devices_bring [] = All-nil _
devices_bring (l ∷ ls) = All-cons BringsNone (Device l) (map as_label ls) tt (devices_bring ls)

answers_bring : (answers : List Answer) → All BringsNone (map as_answer answers)
answers_bring [] = All-nil _
answers_bring (a ∷ more) = All-cons BringsNone (as_answer a) (map as_answer more) tt (answers_bring more)

end_brings : (ends : Bool) → All BringsNone (end_labels ends)
end_brings true = All-cons BringsNone Removed [] tt (All-nil _)
end_brings false = All-nil _

no_calls : (labels : List Label) → All BringsNone labels → AreNoCalls labels
no_calls [] all = tt
no_calls (Call n q ∷ ls) all = absurd (All-head BringsNone (Call n q) ls all)
no_calls (Pause ∷ ls) all = absurd (All-head BringsNone Pause ls all)
no_calls (other ∷ ls) all = no_calls ls (All-tail BringsNone other ls all)

none_has_one : (labels : List Label) → AreNoCalls labels → HaveOneCall labels
none_has_one [] none = tt
none_has_one (Call n q ∷ ls) none = absurd none
none_has_one (_ ∷ ls) none = none_has_one ls none

have_calls_of : (b : Bool) (labels : List Label) → AreNoCalls labels → HaveCallsOf b labels
have_calls_of true labels none = none_has_one labels none
have_calls_of false labels none = none

-- WHAT ANSWERS DO TO A SLOT

told_append : (xs ys : List Label) (number : Option ℕ) → unless_told (xs ++ ys) number ≡ unless_told ys (unless_told xs number)
told_append [] ys number = refl
told_append (AnswerLabel n st i b ∷ xs) ys number = told_append xs ys (unless_number n number)
told_append (_ ∷ xs) ys number = told_append xs ys number

plain_told : (labels : List Label) → All IsPlain labels → (number : Option ℕ) → unless_told labels number ≡ number
plain_told [] all number = refl
plain_told (Cancel n ∷ ls) all number = plain_told ls (All-tail IsPlain (Cancel n) ls all) number
plain_told (Resume ∷ ls) all number = plain_told ls (All-tail IsPlain Resume ls all) number
plain_told (RemoveLabel ∷ ls) all number = plain_told ls (All-tail IsPlain RemoveLabel ls all) number
plain_told (Surprise ∷ ls) all number = plain_told ls (All-tail IsPlain Surprise ls all) number
plain_told (other ∷ ls) all number = absurd (All-head IsPlain other ls all)

devices_told : (labels : List DeviceLabel) (number : Option ℕ) → unless_told (map as_label labels) number ≡ number
devices_told [] number = refl
devices_told (l ∷ ls) number = devices_told ls number

end_told : (ends : Bool) (number : Option ℕ) → unless_told (end_labels ends) number ≡ number
end_told true number = refl
end_told false number = refl

none_told : (answers : List Answer) → unless_told (map as_answer answers) None ≡ None
none_told [] = refl
none_told (a ∷ more) = none_told more

is_same : (c d : ℕ) → c ≡ d → (c == d) ≡ true
is_same c d e = grind (arith, nat_tests)

is_other : (c d : ℕ) → c ≢ d → (c == d) ≡ false
is_other c d ne = grind (arith, nat_tests)

number_of : Holder → ℕ
number_of h = h.number

unless_answers : (answers : List Answer) (holder : Option Holder)
    → option_map (λ h. h.number) (unless_answered answers holder) ≡ unless_told (map as_answer answers) (option_map (λ h. h.number) holder)
unless_answers answers None = sym (none_told answers)
unless_answers [] (Some h) = refl
unless_answers (a ∷ more) (Some h) =
    dite
    (ℕ_discrete a.number h.number)
    (λ (e : a.number ≡ h.number).
    ap (λ b. option_map (λ x. x.number) (if b || list_any (is_answer_of h) more then None else Some h)) (is_same a.number h.number e)
    ∙ sym (ap (λ b. unless_told (map as_answer more) (if b then None else Some h.number)) (is_same h.number a.number (sym e)) ∙ none_told more))
    (λ (ne : a.number ≢ h.number).
    ap (λ b. option_map (λ x. x.number) (if b || list_any (is_answer_of h) more then None else Some h)) (is_other a.number h.number ne)
    ∙ unless_answers more (Some h)
    ∙ sym (ap (λ b. unless_told (map as_answer more) (if b then None else Some h.number)) (is_other h.number a.number (λ e. ne (sym e)))))

-- a slot whose number was given before keeps it when a later one is answered
keeps_lower : (next : ℕ) (number : Option ℕ) → ((n : ℕ) → number ≡ Some n → n < next) → unless_number next number ≡ number
keeps_lower next None below = refl
keeps_lower next (Some n) below =
    ap (λ b. if b then None else Some n) (is_other n next (λ e. let less = below n refl in absurd (omega arith)))

-- THE ROWS

-- the call of an event that asks for a request, and the labels that it brings
record IsCall (old : ManagerView) (event : Event) (q : ClientRequest) : Type 0 where
  pub is_call : is_call_event event ≡ true
  pub brings : labels_brought old.rules old.state (Call old.state.next_request q) ≤ brought_by (sizes_of old.rules) event

-- the reply opens no request
abbrev OpensNone : Reply → Type 0
OpensNone (Requested id) = ⊥
OpensNone _ = Unit {0}

-- a step's own labels: plain ones, a pause, a call, or a call and its answer at once
abbrev IsOwn : ManagerView → Event → Reply → List Label → Type 0
IsOwn old event reply own =
    All IsPlain own
    ⊎ (((own ≡ Pause ∷ []) × (event ≡ QueryRemove))
    ⊎ (((q : ClientRequest) × (own ≡ Call old.state.next_request q ∷ []) × IsCall old event q)
    ⊎ ((q : ClientRequest) × (status : NtStatus) × (own ≡ Call old.state.next_request q ∷ AnswerLabel old.state.next_request status 0 [] ∷ []) × IsCall old event q × OpensNone reply)))

-- what a reply opens
record OpensNext (old : ManagerView) (id : Id) (own : List Label) : Type 0 where
  pub slot : IsSlotOf old.rules.open_requests id.slot
  pub number : id.number ≡ old.state.next_request
  pub small : old.state.next_request < number_limit
  pub request : ClientRequest
  pub calls : own ≡ Call old.state.next_request request ∷ []

abbrev Opens : ManagerView → Reply → List Label → Type 0
Opens old (Requested id) own = OpensNext old id own
Opens old _ own = Unit {0}

record Gist (old : ManagerView) (event : Event) (reply : Reply) (new : ManagerView) (told : Told) : Type 0 where
  pub handles : is_handle_event event ≡ false → new.handles ≡ old.handles
  pub own : IsOwn old event reply told.own
  pub admitted : (k : ℕ) → option_map (λ h. h.number) (slice_index_or told.admitted k None) ≡ admitted_at reply k (open_at old k)
  pub opens : Opens old reply told.own

none_opened : (old : ManagerView) (reply : Reply) (own : List Label) → OpensNone reply → Opens old reply own
none_opened old (Requested id) own shut = absurd shut
none_opened old _ own shut = tt

none_admitted : (reply : Reply) (k : ℕ) (number : Option ℕ) → OpensNone reply → admitted_at reply k number ≡ number
none_admitted (Requested id) k number shut = absurd shut
none_admitted _ k number shut = refl

module _ (old : ManagerView) (event : Event) (reply : Reply) (new : ManagerView) (told : Told) where
  -- no request is opened
  opening_none : OpensNone reply → (is_handle_event event ≡ false → new.handles ≡ old.handles) → IsOwn old event reply told.own → told.admitted ≡ old.holders → Gist old event reply new told
  opening_none shut handles own same = record {
    handles = handles;
    own = own;
    admitted = λ k. ap (λ hs. option_map (λ h. h.number) (slice_index_or hs k None)) same ∙ sym (none_admitted reply k (open_at old k) shut);
    opens = none_opened old reply told.own shut;
  }

  plainly : OpensNone reply → (is_handle_event event ≡ false → new.handles ≡ old.handles) → All IsPlain told.own → told.admitted ≡ old.holders → Gist old event reply new told
  plainly shut handles plain same = opening_none shut handles (inl plain) same

  nothing : OpensNone reply → (is_handle_event event ≡ false → new.handles ≡ old.handles) → told ≡ tells_nothing old → Gist old event reply new told
  nothing shut handles none = plainly shut handles (subst (All IsPlain) (sym (ap (λ (t : Told). t.own) none)) (All-nil _)) (ap (λ (t : Told). t.admitted) none)

  own_empty : told.own ≡ [] → All IsPlain told.own
  own_empty none = subst (All IsPlain) (sym none) (All-nil _)

  cancels_all : (handle : ℕ) → CancelsAllOf old handle told → All IsPlain told.own
  cancels_all handle c = subst (All IsPlain) (sym c.own) (cancels_plain c.numbers)

  cancels_one : (number : ℕ) → CancelsOne old number told → All IsPlain told.own
  cancels_one number c = subst (All IsPlain) (sym c.own) (at c.request.cancelled)
    where
      at : (b : Bool) → All IsPlain (if b then [] else Cancel number ∷ [])
      at true = All-nil _
      at false = All-cons IsPlain (Cancel number) [] tt (All-nil _)

  one_plain : (label : Label) → IsPlain label → TellsOne old label told → All IsPlain told.own
  one_plain label is tells = subst (All IsPlain) (sym tells.own) (All-cons IsPlain label [] is (All-nil _))

-- CALLS

in_bounds_is_short : (rules : Rules) (q : ClientRequest) → is_in_bounds rules q ≡ true → q.length / rules.sector_size ≤ rules.longest
in_bounds_is_short rules q all = grind (arith, nat_tests, all)

not_false : (b : Bool) → not b ≡ false → b ≡ true
not_false true e = refl
not_false false e = absurd (cc)

-- the labels of a call by what refuses it
brings_two : (old : ManagerView) (q : ClientRequest) (status : NtStatus) (most : ℕ) → refusal old.rules old.state q ≡ Some status → 3 ≤ most
    → labels_brought old.rules old.state (Call old.state.next_request (without_bytes q)) ≤ most
brings_two old q status most is enough =
    subst (λ (r : Option NtStatus). (if is_none r then 3 * piece_count old.rules (place_count old.rules q) + 2 * restarts old.rules + 3 else 2) ≤ most) (sym is) (omega arith)

brings_all : (old : ManagerView) (q : ClientRequest) (most : ℕ) → refusal old.rules old.state q ≡ None
    → 3 * piece_count old.rules (place_count old.rules q) + 2 * restarts old.rules + 3 ≤ most
    → labels_brought old.rules old.state (Call old.state.next_request q) ≤ most
brings_all old q most is enough =
    subst (λ (r : Option NtStatus). (if is_none r then 3 * piece_count old.rules (place_count old.rules q) + 2 * restarts old.rules + 3 else 2) ≤ most) (sym is) enough

module _ (old : ManagerView) (event : Event) (handle : Handle) (q : ClientRequest) (buffer : List ℕ) (new : ManagerView) (told : Told) (is_call : is_call_event event ≡ true)
    (enough : refusal old.rules old.state q ≡ None → 3 * piece_count old.rules (place_count old.rules q) + 2 * restarts old.rules + 3 ≤ brought_by (sizes_of old.rules) event)
    (three : 3 ≤ brought_by (sizes_of old.rules) event) (handles : is_handle_event event ≡ false → new.handles ≡ old.handles) where
  at_once : (reply : Reply) (status : NtStatus) → OpensNone reply → IsAnsweredAtOnce old q status new told → Gist old event reply new told
  at_once reply status shut h =
      opening_none old event reply new told shut handles
      (inr (inr (inr (without_bytes q, status, ap (λ (t : Told). t.own) h.tells, record { is_call = is_call; brings = brings_two old q status _ h.is_refused three }, shut))))
      (ap (λ (t : Told). t.admitted) h.tells)

  turned_away : (reply : Reply) (reason : Refusal) → OpensNone reply → IsTurnedAway old q reason new told → Gist old event reply new told
  turned_away reply DeviceBusy shut h = nothing old event reply new told shut handles h.1.nothing
  turned_away reply InsufficientResources shut h =
      plainly old event reply new told shut handles (subst (All IsPlain) (sym (ap (λ (t : Told). t.own) h.2.nothing)) (All-nil _)) (ap (λ (t : Told). t.admitted) h.2.nothing)
  turned_away reply _ shut h = absurd h

  opened_at : (id : Id) → IsAdmitted old handle q id.slot id.number told → (k : ℕ) → option_map (λ h. h.number) (slice_index_or told.admitted k None) ≡ admitted_at (Requested id) k (open_at old k)
  opened_at id h k =
      dite
      (ℕ_discrete id.slot k)
      (λ (e : id.slot ≡ k).
      ap (λ j. option_map (λ x. x.number) (slice_index_or told.admitted j None)) (sym e) ∙ ap (option_map (λ x. x.number)) h.holds.there
      ∙ sym (ap (λ b. if b then Some id.number else open_at old k) (is_same id.slot k e)))
      (λ (ne : id.slot ≢ k).
      ap (option_map (λ x. x.number)) (h.holds.others k (λ e. ne (sym e)))
      ∙ sym (ap (λ b. if b then Some id.number else open_at old k) (is_other id.slot k ne)))

  below_limit : are_used_up old.state.next_request ≡ false → old.state.next_request < number_limit
  below_limit last = grind (arith, nat_tests, last)

  transfer : (reply : Reply) → TransferReplies old handle q buffer reply new told → Gist old event reply new told
  transfer (Requested id) h = record {
    handles = handles;
    own = inr (inr (inl (q, h.own ∙ ap (λ n. Call n q ∷ []) h.next_number, record { is_call = is_call; brings = brings_all old q _ h.not_refused (enough h.not_refused) })));
    admitted = opened_at id h;
    opens = record { slot = h.in_range; number = h.next_number; small = below_limit h.numbers_last; request = q; calls = h.own ∙ ap (λ n. Call n q ∷ []) h.next_number };
  }
  transfer (Answered answer) h = at_once (Answered answer) _ tt h.0
  transfer (Refused reason bytes) (_, inl h) = at_once (Refused reason bytes) _ tt h
  transfer (Refused reason bytes) (_, inr h) = turned_away (Refused reason bytes) reason tt h
  transfer _ h = absurd h

-- a read or a write that is not refused is no longer than the longest
enough_sectors : (old : ManagerView) (q : ClientRequest) (bytes : ℕ) → (refusal old.rules old.state q ≡ None → q.length / old.rules.sector_size ≤ old.rules.longest) → q.length ≡ bytes → refusal old.rules old.state q ≡ None
    → 3 * piece_count old.rules (q.length / old.rules.sector_size) + 2 * restarts old.rules + 3 ≤ labels_of_transfer (sizes_of old.rules) bytes
enough_sectors old q bytes short is none =
    let less : q.length / old.rules.sector_size ≤ old.rules.longest = short none in
    let least : min (q.length / old.rules.sector_size) old.rules.longest ≡ q.length / old.rules.sector_size = omega arith in
    subst (λ (n : ℕ). 3 * piece_count old.rules (q.length / old.rules.sector_size) + 2 * restarts old.rules + 3 ≤ labels_of_transfer (sizes_of old.rules) n) is
    (subst (λ (p : ℕ). 3 * piece_count old.rules (q.length / old.rules.sector_size) + 2 * restarts old.rules + 3 ≤ labels_of_call (sizes_of old.rules) p) (sym least) (omega arith))

short_read : (old : ManagerView) (q : ClientRequest) → q.kind ≡ ReadKind → refusal old.rules old.state q ≡ None → q.length / old.rules.sector_size ≤ old.rules.longest
short_read old q kind none =
    let known = none_first (is_none q.partition) _ _ none in
    let going = none_first old.state.removing _ _ known.1 in
    let outside = none_first (is_transfer q.kind && not (is_in_bounds old.rules q)) _ _ going.1 in
    in_bounds_is_short old.rules q (not_false (is_in_bounds old.rules q) (sym (ap (λ k. is_transfer k && not (is_in_bounds old.rules q)) kind) ∙ outside.0))

short_write : (old : ManagerView) (q : ClientRequest) → q.kind ≡ WriteKind → refusal old.rules old.state q ≡ None → q.length / old.rules.sector_size ≤ old.rules.longest
short_write old q kind none =
    let known = none_first (is_none q.partition) _ _ none in
    let going = none_first old.state.removing _ _ known.1 in
    let outside = none_first (is_transfer q.kind && not (is_in_bounds old.rules q)) _ _ going.1 in
    in_bounds_is_short old.rules q (not_false (is_in_bounds old.rules q) (sym (ap (λ k. is_transfer k && not (is_in_bounds old.rules q)) kind) ∙ outside.0))

three_more : (rules : Rules) (places : ℕ) → 3 ≤ labels_of_call (sizes_of rules) places
three_more rules places = omega arith

-- EACH EVENT

open_gist : (old : ManagerView) (partition : ℕ) (reply : Reply) (new : ManagerView) (told : Told) → OpenReplies old partition reply new told → Gist old (Open partition) reply new told
open_gist old p (HandleReply h) new told r = nothing old (Open p) (HandleReply h) new told tt (λ e. absurd (cc)) r.0.nothing
open_gist old p (Refused why bytes) new told r = nothing old (Open p) (Refused why bytes) new told tt (λ e. absurd (cc)) r.1.unmoved.nothing
open_gist old p _ new told r = absurd r

close_gist : (old : ManagerView) (handle : Handle) (reply : Reply) (new : ManagerView) (told : Told) → CloseReplies old handle reply new told → Gist old (Close handle) reply new told
close_gist old h OkReply new told r = plainly old (Close h) OkReply new told tt (λ e. absurd (cc)) (cancels_all old (Close h) OkReply new told h.number r.1) r.1.holders
close_gist old h (Refused why bytes) new told r = nothing old (Close h) (Refused why bytes) new told tt (λ e. absurd (cc)) r.1.unmoved.nothing
close_gist old h _ new told r = absurd r

read_gist : (old : ManagerView) (handle : Handle) (offset : ℕ) (buffer : List ℕ) (reply : Reply) (new : ManagerView) (told : Told)
    → CallReplies old handle (call_on old handle ReadKind offset buffer false) buffer reply new told → Gist old (Read handle offset buffer) reply new told
read_gist old h offset buffer reply new told r =
    let q : ClientRequest = call_on old h ReadKind offset buffer false in
    transfer old (Read h offset buffer) h q buffer new told refl (enough_sectors old q (length buffer) (short_read old q refl) refl) (three_more old.rules _) (λ _. r.handles.handles) reply r.replies

write_gist : (old : ManagerView) (handle : Handle) (offset : ℕ) (bytes : List ℕ) (through : Bool) (reply : Reply) (new : ManagerView) (told : Told)
    → CallReplies old handle (call_on old handle WriteKind offset bytes through) bytes reply new told → Gist old (Write handle offset bytes through) reply new told
write_gist old h offset bytes through reply new told r =
    let q : ClientRequest = call_on old h WriteKind offset bytes through in
    transfer old (Write h offset bytes through) h q bytes new told refl (enough_sectors old q (length bytes) (short_write old q refl) refl) (three_more old.rules _) (λ _. r.handles.handles) reply r.replies

flush_gist : (old : ManagerView) (handle : Handle) (reply : Reply) (new : ManagerView) (told : Told)
    → CallReplies old handle (call_on old handle FlushKind 0 [] false) [] reply new told → Gist old (Flush handle) reply new told
flush_gist old h reply new told r =
    transfer old (Flush h) h (call_on old h FlushKind 0 [] false) [] new told refl (λ _. omega arith) (three_more old.rules 1) (λ _. r.handles.handles) reply r.replies

cancel_gist : (old : ManagerView) (handle : Handle) (target : Option Id) (reply : Reply) (new : ManagerView) (told : Told) → CancelReplies old handle target reply new told → Gist old (CancelIoEx handle target) reply new told
cancel_gist old h None OkReply new told r = plainly old (CancelIoEx h None) OkReply new told tt (λ _. r.3.handles) (cancels_all old (CancelIoEx h None) OkReply new told h.number r.2) r.2.holders
cancel_gist old h (Some id) OkReply new told r =
    plainly old (CancelIoEx h (Some id)) OkReply new told tt (λ _. r.3.handles) (cancels_one old (CancelIoEx h (Some id)) OkReply new told id.number r.2) r.2.holders
cancel_gist old h target (Refused why bytes) new told r =
    nothing old (CancelIoEx h target) (Refused why bytes) new told tt (λ _. r.1.same_handles.handles) r.1.unmoved.nothing
cancel_gist old h target _ new told r = absurd r

mark_gist : (old : ManagerView) (number : ℕ) (reply : Reply) (new : ManagerView) (told : Told) → MarkReplies old number reply new told → Gist old (Mark number) reply new told
mark_gist old n OkReply new told r = plainly old (Mark n) OkReply new told tt (λ _. r.1.handles) (cancels_one old (Mark n) OkReply new told n r.0) r.0.holders
mark_gist old n Ignored new told r = nothing old (Mark n) Ignored new told tt (λ _. r.2.handles) r.0.nothing
mark_gist old n _ new told r = absurd r

query_gist : (old : ManagerView) (reply : Reply) (new : ManagerView) (told : Told) → QueryReplies old reply new told → Gist old QueryRemove reply new told
query_gist old OkReply new told r = opening_none old QueryRemove OkReply new told tt (λ _. r.handles.handles) (inr (inl (r.tells.own, refl))) r.tells.holders
query_gist old (Refused why bytes) new told r = nothing old QueryRemove (Refused why bytes) new told tt (λ _. r.refuses.same_handles.handles) r.refuses.unmoved.nothing
query_gist old _ new told r = absurd r

remove_gist : (old : ManagerView) (reply : Reply) (new : ManagerView) (told : Told) → RemoveReplies old reply new told → Gist old Remove reply new told
remove_gist old OkReply new told r = plainly old Remove OkReply new told tt (λ _. r.handles.handles) (one_plain old Remove OkReply new told RemoveLabel tt r.tells) r.tells.holders
remove_gist old (Refused why bytes) new told r = nothing old Remove (Refused why bytes) new told tt (λ _. r.refuses.same_handles.handles) r.refuses.unmoved.nothing
remove_gist old _ new told r = absurd r

surprise_gist : (old : ManagerView) (reply : Reply) (new : ManagerView) (told : Told) → SurpriseReplies old reply new told → Gist old SurpriseRemove reply new told
surprise_gist old OkReply new told r = plainly old SurpriseRemove OkReply new told tt (λ _. r.handles.handles) (one_plain old SurpriseRemove OkReply new told Surprise tt r.tells) r.tells.holders
surprise_gist old (Refused why bytes) new told r = nothing old SurpriseRemove (Refused why bytes) new told tt (λ _. r.refuses.same_handles.handles) r.refuses.unmoved.nothing
surprise_gist old _ new told r = absurd r

recalled : (old new : ManagerView) (told : Told) (state : PnpState) → IsRecalled state old new told → SameHandles old new → Gist old CancelRemove OkReply new told
recalled old new told Started r same = nothing old CancelRemove OkReply new told tt (λ _. same.handles) r.nothing
recalled old new told RemovePending r same = plainly old CancelRemove OkReply new told tt (λ _. same.handles) (one_plain old CancelRemove OkReply new told Resume tt r.0) r.0.holders
recalled old new told _ r same = absurd r

recall_gist : (old : ManagerView) (reply : Reply) (new : ManagerView) (told : Told) → RecallReplies old reply new told → Gist old CancelRemove reply new told
recall_gist old OkReply new told r = recalled old new told (pnp_state old.state) r.0 r.1
recall_gist old (Refused why bytes) new told r = nothing old CancelRemove (Refused why bytes) new told tt (λ _. r.refuses.same_handles.handles) r.refuses.unmoved.nothing
recall_gist old _ new told r = absurd r

act_gist : (old : ManagerView) (tag : ℕ) (reply : Reply) (new : ManagerView) (told : Told) → ActReplies old tag reply new told → Gist old (Act tag) reply new told
act_gist old tag OkReply new told r = plainly old (Act tag) OkReply new told tt (λ _. r.1.handles) (own_empty old (Act tag) OkReply new told r.0.no_own) r.0.holders
act_gist old tag Ignored new told r = nothing old (Act tag) Ignored new told tt (λ _. r.2.handles) r.0.nothing
act_gist old tag _ new told r = absurd r

finish_gist : (old : ManagerView) (tag : ℕ) (reply : Reply) (new : ManagerView) (told : Told) → FinishReplies old tag reply new told → Gist old (Finish tag) reply new told
finish_gist old tag OkReply new told r = plainly old (Finish tag) OkReply new told tt (λ _. r.1.handles) (own_empty old (Finish tag) OkReply new told r.0.no_own) r.0.holders
finish_gist old tag Ignored new told r = nothing old (Finish tag) Ignored new told tt (λ _. r.2.handles) r.0.nothing
finish_gist old tag _ new told r = absurd r

reset_gist : (old new : ManagerView) (told : Told) → TellsReset old new told → Gist old Reset OkReply new told
reset_gist old new told r = plainly old Reset OkReply new told tt (λ _. r.handles.handles) (own_empty old Reset OkReply new told r.no_own) r.holders

-- A STEP

-- what is told of a right step, whatever its event
record Facts (old : ManagerView) (event : Event) (reply : Reply) (new : ManagerView) : Type 0 where
  pub told : Told
  pub gist : Gist old event reply new told
  pub reset : Bool
  pub by : IsRightBy reset told old new

facts : (old : ManagerView) (event : Event) (reply : Reply) (new : ManagerView) → IsRight old event reply new → Facts old event reply new
facts old (Open p) reply new r = record { told = r.told; gist = open_gist old p reply new r.told r.replies; reset = false; by = r.by }
facts old (Close h) reply new r = record { told = r.told; gist = close_gist old h reply new r.told r.replies; reset = false; by = r.by }
facts old (Read h offset buffer) reply new r = record { told = r.told; gist = read_gist old h offset buffer reply new r.told r.replies; reset = false; by = r.by }
facts old (Write h offset bytes through) reply new r = record { told = r.told; gist = write_gist old h offset bytes through reply new r.told r.replies; reset = false; by = r.by }
facts old (Flush h) reply new r = record { told = r.told; gist = flush_gist old h reply new r.told r.replies; reset = false; by = r.by }
facts old (CancelIoEx h target) reply new r = record { told = r.told; gist = cancel_gist old h target reply new r.told r.replies; reset = false; by = r.by }
facts old (Mark n) reply new r = record { told = r.told; gist = mark_gist old n reply new r.told r.replies; reset = false; by = r.by }
facts old QueryRemove reply new r = record { told = r.told; gist = query_gist old reply new r.told r.replies; reset = false; by = r.by }
facts old CancelRemove reply new r = record { told = r.told; gist = recall_gist old reply new r.told r.replies; reset = false; by = r.by }
facts old Remove reply new r = record { told = r.told; gist = remove_gist old reply new r.told r.replies; reset = false; by = r.by }
facts old SurpriseRemove reply new r = record { told = r.told; gist = surprise_gist old reply new r.told r.replies; reset = false; by = r.by }
facts old (Act tag) reply new r = record { told = r.told; gist = act_gist old tag reply new r.told r.replies; reset = false; by = r.by }
facts old (Finish tag) reply new r = record { told = r.told; gist = finish_gist old tag reply new r.told r.replies; reset = false; by = r.by }
facts old Reset reply new (is, r) = record { told = r.told; gist = subst (λ (x : Reply). Gist old Reset x new r.told) (sym is) (reset_gist old new r.told r.replies); reset = true; by = r.by }

-- what follows a step's own labels: those of the device, of answers, and of a removal that ended
behind : Told → List Label
behind told = (map as_label told.device ++ map as_answer told.answers) ++ end_labels told.ends

own_first : (told : Told) → labels_of told ≡ told.own ++ behind told
unfolding behind
own_first told =
    ap (λ ls. ls ++ end_labels told.ends) (append_assoc told.own (map as_label told.device) (map as_answer told.answers))
    ∙ append_assoc told.own (map as_label told.device ++ map as_answer told.answers) (end_labels told.ends)

behind_brings : (told : Told) → All BringsNone (behind told)
unfolding behind
behind_brings told =
    All-append BringsNone (map as_label told.device ++ map as_answer told.answers) (end_labels told.ends)
    (All-append BringsNone (map as_label told.device) (map as_answer told.answers) (devices_bring told.device) (answers_bring told.answers)) (end_brings told.ends)

behind_told : (told : Told) (number : Option ℕ) → unless_told (behind told) number ≡ unless_told (map as_answer told.answers) number
unfolding behind
behind_told told number =
    told_append (map as_label told.device ++ map as_answer told.answers) (end_labels told.ends) number
    ∙ end_told told.ends _
    ∙ told_append (map as_label told.device) (map as_answer told.answers) number
    ∙ ap (unless_told (map as_answer told.answers)) (devices_told told.device number)

-- an answer that is told is among the labels
among : (answers : List Answer) (answer : Answer) → Contains answers answer → Contains (map as_answer answers) (as_answer answer)
among (a ∷ more) answer (zero, low, is) = (zero, (omega arith), ap as_answer is)
among (a ∷ more) answer (suc k, low, is) = let h = among more answer (k, (omega arith), is) in (suc (h.0), (let l = h.1 in omega arith), h.2)
among [] answer (k, low, is) = absurd (omega arith)

told_or_waited : (told : Told) (old new : ManagerView) → new.labels ≡ told.own ++ behind told → IsPermutation new.answers (told.answers ++ old.answers)
    → (answer : Answer) → Contains new.answers answer → Contains new.labels (as_answer answer) ⊎ Contains old.answers answer
unfolding behind
told_or_waited told old new split untaken answer is = by_case (Contains-append_cases told.answers old.answers answer (Contains-permutation new.answers (told.answers ++ old.answers) answer untaken is))
  where
    by_case : Contains told.answers answer ⊎ Contains old.answers answer → Contains new.labels (as_answer answer) ⊎ Contains old.answers answer
    by_case (inl here) = inl (subst (λ (ls : List Label). Contains ls (as_answer answer)) (sym split)
        (Contains-append_right told.own _ (as_answer answer)
        (Contains-append_left (map as_label told.device ++ map as_answer told.answers) (end_labels told.ends) (as_answer answer)
        (Contains-append_right (map as_label told.device) (map as_answer told.answers) (as_answer answer) (among told.answers answer here)))))
    by_case (inr before) = inr before

-- the laws that serve here
pub record Laws : Type 0 where
  pub count : CallsCount
  pub uses : StepsUseUp
  pub no_more : NoMoreAreLeft
  pub goes_on : RunsGoOn

-- one label, and behind it none that brings any
one_brings : Laws → (rules : Rules) → IsFalse rules.any_cut → (s : State) (label : Label) (labels : List Label) (s' : State) → IsReached rules s → All BringsNone labels → Run rules s (label ∷ labels) s'
    → labels_left rules s' + length (label ∷ labels) ≤ labels_left rules s + labels_brought rules s label
one_brings laws rules on_grid s label labels s' reached none (mid, step, run) =
    let one : labels_left rules mid + 1 ≤ labels_left rules s + labels_brought rules s label = laws.uses rules on_grid s label mid reached step in
    let at : IsReached rules mid = laws.goes_on rules s (label ∷ []) mid reached (mid, step, IsSame-refl mid) in
    let more : labels_left rules s' + length labels ≤ labels_left rules mid = laws.no_more rules on_grid mid labels s' at run none in
    omega arith

module _ (laws : Laws) (old : ManagerView) (event : Event) (reply : Reply) (new : ManagerView) (on_grid : IsFalse old.rules.any_cut) (reached : IsReached old.rules old.state) (told : Told) (gist : Gist old event reply new told) where
  -- how many labels are used up, by the own ones
  uses_up : (own : List Label) → IsOwn old event reply own → Run old.rules old.state (own ++ behind told) new.state
      → labels_left old.rules new.state + length (own ++ behind told) ≤ labels_left old.rules old.state + brought_by (sizes_of old.rules) event
  uses_up own (inl plain) run =
      let none : labels_left old.rules new.state + length (own ++ behind told) ≤ labels_left old.rules old.state =
      laws.no_more old.rules on_grid old.state (own ++ behind told) new.state reached run (All-append BringsNone own (behind told) (plain_brings own plain) (behind_brings told)) in
      omega arith
  uses_up own (inr (inl (is, query))) run =
      subst (λ (e : Event). labels_left old.rules new.state + length (own ++ behind told) ≤ labels_left old.rules old.state + brought_by (sizes_of old.rules) e) (sym query)
      (subst (λ (ls : List Label). Run old.rules old.state (ls ++ behind told) new.state → labels_left old.rules new.state + length (ls ++ behind told) ≤ labels_left old.rules old.state + 2) (sym is)
      (λ r. one_brings laws old.rules on_grid old.state Pause (behind told) new.state reached (behind_brings told) r) run)
  uses_up own (inr (inr (inl (q, is, call)))) run =
      subst (λ (ls : List Label). Run old.rules old.state (ls ++ behind told) new.state → labels_left old.rules new.state + length (ls ++ behind told) ≤ labels_left old.rules old.state + brought_by (sizes_of old.rules) event) (sym is)
      (λ r. let b = call.brings in
      let one = one_brings laws old.rules on_grid old.state (Call old.state.next_request q) (behind told) new.state reached (behind_brings told) r in omega arith) run
  uses_up own (inr (inr (inr (q, status, is, call, shut)))) run =
      subst (λ (ls : List Label). Run old.rules old.state (ls ++ behind told) new.state → labels_left old.rules new.state + length (ls ++ behind told) ≤ labels_left old.rules old.state + brought_by (sizes_of old.rules) event) (sym is)
      (λ r. let b = call.brings in
      let answer : Label = AnswerLabel old.state.next_request status 0 [] in
      let one = one_brings laws old.rules on_grid old.state (Call old.state.next_request q) (answer ∷ behind told) new.state reached (All-cons BringsNone answer (behind told) tt (behind_brings told)) r in omega arith) run

  -- at most one of them is a call
  have_calls : (own : List Label) → IsOwn old event reply own → HaveCallsOf (is_call_event event) (own ++ behind told)
  have_calls own (inl plain) = have_calls_of (is_call_event event) (own ++ behind told) (no_calls (own ++ behind told) (All-append BringsNone own (behind told) (plain_brings own plain) (behind_brings told)))
  have_calls own (inr (inl (is, query))) =
      subst (λ (ls : List Label). HaveCallsOf (is_call_event event) (ls ++ behind told)) (sym is) (have_calls_of (is_call_event event) (Pause ∷ behind told) (no_calls (behind told) (behind_brings told)))
  have_calls own (inr (inr (inl (q, is, call)))) =
      subst (λ (ls : List Label). HaveCallsOf (is_call_event event) (ls ++ behind told)) (sym is)
      (subst (λ (b : Bool). HaveCallsOf b (Call old.state.next_request q ∷ behind told)) (sym call.is_call) (no_calls (behind told) (behind_brings told)))
  have_calls own (inr (inr (inr (q, status, is, call, shut)))) =
      subst (λ (ls : List Label). HaveCallsOf (is_call_event event) (ls ++ behind told)) (sym is)
      (subst (λ (b : Bool). HaveCallsOf b (Call old.state.next_request q ∷ AnswerLabel old.state.next_request status 0 [] ∷ behind told)) (sym call.is_call) (no_calls (behind told) (behind_brings told)))

  -- the own labels leave each slot as the reply does
  own_stays : ((k number : ℕ) → open_at old k ≡ Some number → number < old.state.next_request) → (own : List Label) → IsOwn old event reply own → (k : ℕ)
      → unless_told own (admitted_at reply k (open_at old k)) ≡ admitted_at reply k (open_at old k)
  own_stays given own (inl plain) k = plain_told own plain _
  own_stays given own (inr (inl (is, query))) k = ap (λ ls. unless_told ls (admitted_at reply k (open_at old k))) is
  own_stays given own (inr (inr (inl (q, is, call)))) k = ap (λ ls. unless_told ls (admitted_at reply k (open_at old k))) is
  own_stays given own (inr (inr (inr (q, status, is, call, shut)))) k =
      let same : admitted_at reply k (open_at old k) ≡ open_at old k = none_admitted reply k (open_at old k) shut in
      ap (λ ls. unless_told ls (admitted_at reply k (open_at old k))) is ∙ ap (unless_number old.state.next_request) same
      ∙ keeps_lower old.state.next_request (open_at old k) (given k) ∙ sym same

  opens_slot : (labels : List Label) → labels ≡ told.own ++ behind told → Run old.rules old.state labels new.state → (r : Reply) → Opens old r told.own → OpensSlot old r new
  opens_slot labels is run (Requested id) o = record {
    slot = o.slot;
    number = o.number;
    small = subst (λ (n : ℕ). n < number_limit) (sym o.number) o.small;
    given =
        let counted = laws.count old.rules old.state labels new.state run in
        let first : labels ≡ Call old.state.next_request o.request ∷ behind told = is ∙ ap (λ ls. ls ++ behind told) o.calls in
        let some : length (call_numbers labels) ≡ length (call_numbers (behind told)) + 1 = ap (λ ls. length (call_numbers ls)) first ∙ omega arith in
        let number = o.number in omega arith;
  }
  opens_slot labels is run _ o = tt

pub serves : Laws → (old : ManagerView) (event : Event) (reply : Reply) (new : ManagerView) → IsFalse old.rules.any_cut → IsReached old.rules old.state
    → ((k number : ℕ) → open_at old k ≡ Some number → number < old.state.next_request) → IsRight old event reply new
    → Serves old event reply new
serves laws old event reply new on_grid reached given right =
    let f : Facts old event reply new = facts old event reply new right in
    let split : new.labels ≡ f.told.own ++ behind f.told = f.by.in_order ∙ own_first f.told in
    record {
      same_rules = f.by.same_rules;
      run = f.by.run;
      handles = f.gist.handles;
      calls = subst (HaveCallsOf (is_call_event event)) (sym split) (have_calls laws old event reply new on_grid reached f.told f.gist f.told.own f.gist.own);
      opens = opens_slot laws old event reply new on_grid reached f.told f.gist new.labels split f.by.run reply f.gist.opens;
      holders = λ k.
          ap (option_map (λ h. h.number)) (f.by.holders k)
          ∙ unless_answers f.told.answers (slice_index_or f.told.admitted k None)
          ∙ ap (unless_told (map as_answer f.told.answers)) (f.gist.admitted k ∙ sym (own_stays laws old event reply new on_grid reached f.told f.gist given f.told.own f.gist.own k))
          ∙ sym (behind_told f.told _)
          ∙ sym (told_append f.told.own (behind f.told) _)
          ∙ sym (ap (λ ls. unless_told ls (admitted_at reply k (open_at old k))) split);
      answers = told_or_waited f.told old new split f.by.untaken;
      used_up = subst (λ (ls : List Label). labels_left old.rules new.state + length ls ≤ labels_left old.rules old.state + brought_by (sizes_of old.rules) event) (sym split)
          (uses_up laws old event reply new on_grid reached f.told f.gist f.told.own f.gist.own (subst (λ (ls : List Label). Run old.rules old.state ls new.state) split f.by.run));
    }
