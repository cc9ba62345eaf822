-- Where the device is: by the keeper's calls, and by the stack's state.
use Rattle.std.proofs.Common.{◌≡◌, ◌≢◌, ℕ, zero, suc, Bool, true, false, if◌then◌else◌, List, [], ◌∷◌, ◌++◌, map, Option, Some, None, refl, sym, ap, ◌∙◌, subst, arith, inl, inr}
use Rattle.std.specs.Prelude.{◌⊎◌, is_some}
use Rattle.std.specs.Borrow.{MutBor}
use Rattle.host.proofs.Common.{Label, State, Step, Run, Rules, as_label, ClientRequest, CallsCount, DeviceBusy, InsufficientResources, InvalidDeviceRequest, status_of_refusal, Reply, ManagerView, Told, ActReplies, FinishReplies, PnpReplies, RecallReplies, as_answer, Event, IsNoAct, ShareView, BookView, HoldsFailure, IsLastAct, IsStepped, ServesAfter, ServesEvent, TracedView, AreLooked, IsServed, bytes_of}
use Rattle.srb.specs.declared.Completion.{Completion}
use Rattle.machine.specs.declared.Label.TheVariants.{Pause, Resume, Remove as RemoveLabel, Surprise}
use Rattle.io_manager.specs.declared.Handle.{Handle}
use Rattle.io_manager.specs.declared.Refusal.{Refusal}
use Rattle.io_manager.specs.declared.Reply.TheVariants.{Handle as HandleReply, Ok as OkReply, Request as Requested, Answered, Refused, Ignored}
use Rattle.io_manager.specs.declared.Answer.{Answer}
use Rattle.io_manager.specs.Right.{IsAnsweredAtOnce, IsRecalled, IsRightBy, IsTurnedAway, IsValid, TakesAnswerOf, TransferReplies, end_labels, pnp_state}
use Rattle.pnp.specs.declared.State.{State as PnpState}
use Rattle.pnp.specs.declared.State.TheVariants.{Started, RemovePending, Removing, Removed}
use Rattle.pnp.specs.declared.Request.{Request}
use Rattle.pnp.specs.declared.Request.TheVariants.{QueryRemove, CancelRemove, Remove, SurpriseRemove}
use Rattle.pnp.specs.Table.{event_of, next}
use Rattle.compose.specs.declared.Event.TheVariants.{Read, Write, Flush, Act, Finish, Reset}
use Rattle.compose.specs.Right.{IsRight}
use Rattle.book.specs.Book.{CallsAfter, ServesWith}
use Rattle.host.specs.Standing.{GoesBy, call_of, is_others, is_taken, left_behind, left_by, steps_of}
use Rattle.host.proofs.Quiet.{goes_before, still_before}
use Rattle.host.proofs.Undisturbed.{IsWhereItWas, LeaveDevice, leaves_run, rest_leaves, right_leaves, where_same, where_then}

-- THE COUNT

-- by whether the device goes, and whether it is paused
abbrev steps_by : Bool → Bool → ℕ
steps_by true paused = 2
steps_by false true = 1
steps_by false false = 0

by_flags : (removing removed paused : Bool) → steps_of (if removing then (if removed then Removed else Removing) else (if paused then RemovePending else Started)) ≡ steps_by removing paused
by_flags true true paused = refl
by_flags true false paused = refl
by_flags false removed true = refl
by_flags false removed false = refl

steps_shown : (s : State) → steps_of (pnp_state s) ≡ steps_by s.removing s.paused
steps_shown s = by_flags s.removing s.removed s.paused

at_flags : (s : State) (removing paused : Bool) → s.removing ≡ removing → s.paused ≡ paused → steps_of (pnp_state s) ≡ steps_by removing paused
at_flags s removing paused goes held = steps_shown s ∙ ap (λ (b : Bool). steps_by b s.paused) goes ∙ ap (steps_by removing) held

-- it stays where the device does
pub count_stays : (s t : State) → IsWhereItWas s t → steps_of (pnp_state t) ≡ steps_of (pnp_state s)
count_stays s t h = at_flags t s.removing s.paused h.removing h.paused ∙ sym (steps_shown s)

two_not_one : (n : ℕ) → n ≡ 2 → n ≡ 1 → ⊥
two_not_one n two one = omega (arith, two, one)

not_going : (removing paused : Bool) → steps_by removing paused ≡ 1 → removing ≡ false
not_going true paused e = absurd (two_not_one (steps_by true paused) refl e)
not_going false paused e = refl

-- THE TABLE

-- what the table takes, the count tells
abbrev taken_at : Request → ℕ → Bool
taken_at QueryRemove zero = true
taken_at QueryRemove (suc steps) = false
taken_at CancelRemove zero = true
taken_at CancelRemove (suc zero) = true
taken_at CancelRemove (suc (suc steps)) = false
taken_at Remove zero = false
taken_at Remove (suc zero) = true
taken_at Remove (suc (suc steps)) = false
taken_at SurpriseRemove zero = true
taken_at SurpriseRemove (suc zero) = true
taken_at SurpriseRemove (suc (suc steps)) = false

taken_by : (request : Request) (state : PnpState) → is_taken request state ≡ taken_at request (steps_of state)
taken_by QueryRemove Started = refl
taken_by QueryRemove RemovePending = refl
taken_by QueryRemove Removing = refl
taken_by QueryRemove Removed = refl
taken_by CancelRemove Started = refl
taken_by CancelRemove RemovePending = refl
taken_by CancelRemove Removing = refl
taken_by CancelRemove Removed = refl
taken_by Remove Started = refl
taken_by Remove RemovePending = refl
taken_by Remove Removing = refl
taken_by Remove Removed = refl
taken_by SurpriseRemove Started = refl
taken_by SurpriseRemove RemovePending = refl
taken_by SurpriseRemove Removing = refl
taken_by SurpriseRemove Removed = refl

same_taken : (request : Request) (one other : PnpState) → steps_of one ≡ steps_of other → is_taken request one ≡ is_taken request other
same_taken request one other same = taken_by request one ∙ ap (taken_at request) same ∙ sym (taken_by request other)

-- A KEEPER'S CALL

-- what it makes of the device, by its reply
pub record MovesDevice (request : Request) (before : PnpState) (reply : Reply) (new : State) : Type 0 where
  pub accepted : reply ≡ OkReply → is_taken request before ≡ true
  pub invalid : reply ≡ Refused InvalidDeviceRequest [] → is_taken request before ≡ false
  pub moved : reply ≡ OkReply → steps_of (pnp_state new) ≡ steps_of (left_by request)
  pub stays : reply ≢ OkReply → steps_of (pnp_state new) ≡ steps_of before

accepts : (request : Request) (before after : PnpState) (new : State) → next (event_of request) before ≡ Some after → steps_of (pnp_state new) ≡ steps_of (left_by request) → MovesDevice request before OkReply new
accepts request before after new valid moved = record {
  accepted = λ ok. ap (λ (o : Option PnpState). is_some o) valid;
  invalid = λ e. absurd (cc (e));
  moved = λ ok. moved;
  stays = λ not. absurd (not refl);
}

refuses : (request : Request) (reason : Refusal) (bytes : List ℕ) (old new : State) → next (event_of request) (pnp_state old) ≡ None → new ≡ old → MovesDevice request (pnp_state old) (Refused reason bytes) new
refuses request reason bytes old new none same = record {
  accepted = λ e. absurd (cc (e));
  invalid = λ e. ap (λ (o : Option PnpState). is_some o) none;
  moved = λ e. absurd (cc (e));
  stays = λ not. ap (λ (s : State). steps_of (pnp_state s)) same;
}

pnp_moves : (request : Request) (after : PnpState) (label : Label) (reply : Reply) (old new : ManagerView) (told : Told)
    → (IsValid old (event_of request) after label new told → steps_of (pnp_state new.state) ≡ steps_of (left_by request))
    → PnpReplies old (event_of request) after label reply new told → MovesDevice request (pnp_state old.state) reply new.state
pnp_moves request after label OkReply old new told moved r = accepts request (pnp_state old.state) after new.state r.valid (moved r)
pnp_moves request after label (Refused reason bytes) old new told moved r = refuses request reason bytes old.state new.state r.invalid r.refuses.unmoved.same_state
pnp_moves request after label _ old new told moved r = absurd r

-- its first label, and what leaves the device behind that
record BeginsWith (label : Label) (old new : ManagerView) : Type 0 where
  mid : State
  step : Step old.rules old.state label mid
  leaves : IsWhereItWas mid new.state

begins_with : (label : Label) (told : Told) (old new : ManagerView) → IsRightBy false told old new → told.own ≡ label ∷ [] → BeginsWith label old new
begins_with label told old new by own =
    let rest : List Label = (map as_label told.device ++ map as_answer told.answers) ++ end_labels told.ends in
    let run : Run old.rules old.state (label ∷ rest) new.state =
    subst (λ (ls : List Label). Run old.rules old.state ls new.state)
    (by.in_order ∙ ap (λ (ls : List Label). ((ls ++ map as_label told.device) ++ map as_answer told.answers) ++ end_labels told.ends) own) by.run in
    record { mid = run.0; step = run.1; leaves = leaves_run old.rules run.0 rest new.state (rest_leaves told) run.2 }

pauses : (rules : Rules) (s t : State) → Step rules s Pause t → (t.removing ≡ false) × (t.paused ≡ true)
pauses rules s t (inl (none, h)) = (h.after.removing ∙ h.not_removing, h.after.paused)
pauses rules s t (inr owing) = absurd owing

resumes : (rules : Rules) (s t : State) → Step rules s Resume t → (t.removing ≡ s.removing) × (t.paused ≡ false)
resumes rules s t (inl (none, h)) = (h.after.removing, h.after.paused)
resumes rules s t (inr owing) = absurd owing

removes : (rules : Rules) (s t : State) → Step rules s RemoveLabel t → (t.removing ≡ true) × (t.paused ≡ false)
removes rules s t (inl (none, h)) = (h.after.removing, h.after.paused)
removes rules s t (inr owing) = absurd owing

surprises : (rules : Rules) (s t : State) → Step rules s Surprise t → (t.removing ≡ true) × (t.paused ≡ false)
surprises rules s t (inl (none, h)) = (h.drains.removing, h.drains.paused)
surprises rules s t (inr owing) = absurd owing

recalls : (reply : Reply) (old new : ManagerView) (told : Told) → IsRightBy false told old new → RecallReplies old reply new told → MovesDevice CancelRemove (pnp_state old.state) reply new.state
recalls OkReply old new told by r = from (pnp_state old.state) refl r.0
  where
    from : (before : PnpState) → pnp_state old.state ≡ before → IsRecalled before old new told → MovesDevice CancelRemove (pnp_state old.state) OkReply new.state
    from Started is h = accepts CancelRemove (pnp_state old.state) Started new.state (ap (next (event_of CancelRemove)) is) (ap (λ (s : State). steps_of (pnp_state s)) h.same_state ∙ ap steps_of is)
    from RemovePending is h =
        let b = begins_with Resume told old new by h.0.own in
        let f = resumes old.rules old.state b.mid b.step in
        let stays : old.state.removing ≡ false = not_going old.state.removing old.state.paused (sym (steps_shown old.state) ∙ ap steps_of is) in
        accepts CancelRemove (pnp_state old.state) Started new.state (ap (next (event_of CancelRemove)) is) (at_flags new.state false false (b.leaves.removing ∙ f.0 ∙ stays) (b.leaves.paused ∙ f.1))
    from Removing is h = absurd h
    from Removed is h = absurd h
recalls (Refused reason bytes) old new told by r = refuses CancelRemove reason bytes old.state new.state r.invalid r.refuses.unmoved.same_state
recalls _ old new told by r = absurd r

right_moves : (request : Request) (reply : Reply) (old new : ManagerView) → IsRight old (call_of request) reply new → MovesDevice request (pnp_state old.state) reply new.state
right_moves QueryRemove reply old new r = pnp_moves QueryRemove RemovePending Pause reply old new r.told moved r.replies
  where
    moved : IsValid old (event_of QueryRemove) RemovePending Pause new r.told → steps_of (pnp_state new.state) ≡ steps_of (left_by QueryRemove)
    moved valid =
        let b = begins_with Pause r.told old new r.by valid.tells.own in
        let f = pauses old.rules old.state b.mid b.step in
        at_flags new.state false true (b.leaves.removing ∙ f.0) (b.leaves.paused ∙ f.1)
right_moves CancelRemove reply old new r = recalls reply old new r.told r.by r.replies
right_moves Remove reply old new r = pnp_moves Remove Removing RemoveLabel reply old new r.told moved r.replies
  where
    moved : IsValid old (event_of Remove) Removing RemoveLabel new r.told → steps_of (pnp_state new.state) ≡ steps_of (left_by Remove)
    moved valid =
        let b = begins_with RemoveLabel r.told old new r.by valid.tells.own in
        let f = removes old.rules old.state b.mid b.step in
        at_flags new.state true false (b.leaves.removing ∙ f.0) (b.leaves.paused ∙ f.1)
right_moves SurpriseRemove reply old new r = pnp_moves SurpriseRemove Removing Surprise reply old new r.told moved r.replies
  where
    moved : IsValid old (event_of SurpriseRemove) Removing Surprise new r.told → steps_of (pnp_state new.state) ≡ steps_of (left_by SurpriseRemove)
    moved valid =
        let b = begins_with Surprise r.told old new r.by valid.tells.own in
        let f = surprises old.rules old.state b.mid b.step in
        at_flags new.state true false (b.leaves.removing ∙ f.0) (b.leaves.paused ∙ f.1)

served_moves : (request : Request) (reply : Reply) (old new : TracedView) → IsServed 0 old (call_of request) reply new → MovesDevice request (pnp_state old.stack.state) reply new.stack.state
served_moves request reply old new (inl c) =
    subst (λ (v : ManagerView). MovesDevice request (pnp_state old.stack.state) reply v.state) (sym c.stack) (right_moves request reply old.stack c.stepped c.right)
served_moves request reply old new (inr w) = record {
  accepted = λ ok. absurd (wanted ok);
  invalid = λ is. absurd (not_invalid (bytes_of (call_of request)) (sym is ∙ w.replies));
  moved = λ ok. absurd (wanted ok);
  stays = λ not. ap (λ (v : TracedView). steps_of (pnp_state v.stack.state)) w.same;
}
  where
    not_ok : (bytes : List ℕ) → OkReply ≡ Refused InsufficientResources bytes → ⊥
    not_ok bytes e = cc (e)

    not_invalid : (bytes : List ℕ) → Refused InvalidDeviceRequest [] ≡ Refused InsufficientResources bytes → ⊥
    not_invalid bytes e = cc (e)

    wanted : reply ≡ OkReply → ⊥
    wanted ok = not_ok (bytes_of (call_of request)) (sym ok ∙ w.replies)

no_act : (request : Request) → IsNoAct (call_of request)
no_act QueryRemove = tt
no_act CancelRemove = tt
no_act Remove = tt
no_act SurpriseRemove = tt

-- a keeper's call, where the count was that of what the keeper knew
pub moves_device : CallsCount → (slots : ℕ) (request : Request) (standing : PnpState) (old : BookView) (reply : Reply) (new : BookView) → steps_of (pnp_state old.traced.stack.state) ≡ steps_of standing
    → IsStepped slots None (inl tt) old (call_of request) reply new → MovesDevice request standing reply new.traced.stack.state
moves_device count slots request standing old reply new agrees stepped =
    let b = goes_before count slots old stepped.marked (call_of request) reply new (no_act request) stepped.looks stepped.serves in
    let k = served_moves request reply b.mid new.traced b.served in
    let there : steps_of (pnp_state b.mid.stack.state) ≡ steps_of standing = count_stays old.traced.stack.state b.mid.stack.state b.still.device ∙ agrees in
    record {
      accepted = λ ok. sym (same_taken request (pnp_state b.mid.stack.state) standing there) ∙ k.accepted ok;
      invalid = λ is. sym (same_taken request (pnp_state b.mid.stack.state) standing there) ∙ k.invalid is;
      moved = k.moved;
      stays = λ not. k.stays not ∙ there;
    }

-- ANY OTHER STEP

call_leaves : (old : ManagerView) (handle : Handle) (q : ClientRequest) (buffer : List ℕ) (reply : Reply) (new : ManagerView) (told : Told) → TransferReplies old handle q buffer reply new told → LeaveDevice told.own
call_leaves old handle q buffer (Requested id) new told r = subst LeaveDevice (sym r.own) (tt, tt)
call_leaves old handle q buffer (Answered answer) new told r = subst (λ (t : Told). LeaveDevice t.own) (sym r.0.tells) (tt, (tt, tt))
call_leaves old handle q buffer (Refused reason bytes) new told r = refused r.1
  where
    turned_away : (why : Refusal) → IsTurnedAway old q why new told → LeaveDevice told.own
    turned_away DeviceBusy t = subst (λ (x : Told). LeaveDevice x.own) (sym t.1.nothing) tt
    turned_away InsufficientResources t = subst (λ (x : Told). LeaveDevice x.own) (sym t.2.nothing) tt
    turned_away _ t = absurd t

    refused : IsAnsweredAtOnce old q (status_of_refusal reason) new told ⊎ IsTurnedAway old q reason new told → LeaveDevice told.own
    refused (inl a) = subst (λ (t : Told). LeaveDevice t.own) (sym a.tells) (tt, (tt, tt))
    refused (inr t) = turned_away reason t
call_leaves old handle q buffer _ new told r = absurd r

act_leaves : (old : ManagerView) (tag : ℕ) (reply : Reply) (new : ManagerView) (told : Told) → ActReplies old tag reply new told → LeaveDevice told.own
act_leaves old tag OkReply new told r = subst LeaveDevice (sym r.0.no_own) tt
act_leaves old tag Ignored new told r = subst (λ (t : Told). LeaveDevice t.own) (sym r.0.nothing) tt
act_leaves old tag _ new told r = absurd r

finish_leaves : (old : ManagerView) (tag : ℕ) (reply : Reply) (new : ManagerView) (told : Told) → FinishReplies old tag reply new told → LeaveDevice told.own
finish_leaves old tag OkReply new told r = subst LeaveDevice (sym r.0.no_own) tt
finish_leaves old tag Ignored new told r = subst (λ (t : Told). LeaveDevice t.own) (sym r.0.nothing) tt
finish_leaves old tag _ new told r = absurd r

others_leave : (event : Event) (reply : Reply) (old new : ManagerView) → is_others event ≡ true → IsRight old event reply new → IsWhereItWas old.state new.state
others_leave (Read handle offset buffer) reply old new is r = right_leaves false r.told old new r.by (call_leaves old handle _ buffer reply new r.told r.replies.replies)
others_leave (Write handle offset bytes through) reply old new is r = right_leaves false r.told old new r.by (call_leaves old handle _ bytes reply new r.told r.replies.replies)
others_leave (Flush handle) reply old new is r = right_leaves false r.told old new r.by (call_leaves old handle _ [] reply new r.told r.replies.replies)
others_leave (Act tag) reply old new is r = right_leaves false r.told old new r.by (act_leaves old tag reply new r.told r.replies)
others_leave (Finish tag) reply old new is r = right_leaves false r.told old new r.by (finish_leaves old tag reply new r.told r.replies)
others_leave Reset reply old new is r = right_leaves true r.1.told old new r.1.by (subst LeaveDevice (sym r.1.replies.no_own) tt)
others_leave _ reply old new is r = absurd (cc (is))

served_leaves : (client : ℕ) (event : Event) (reply : Reply) (old new : TracedView) → is_others event ≡ true → IsServed client old event reply new → IsWhereItWas old.stack.state new.stack.state
served_leaves client event reply old new is (inl c) =
    where_then old.stack.state c.stepped.state new.stack.state (others_leave event reply old.stack c.stepped is c.right) (where_same c.stepped.state new.stack.state (ap (λ (v : ManagerView). v.state) c.stack))
served_leaves client event reply old new is (inr w) = where_same old.stack.state new.stack.state (ap (λ (v : TracedView). v.stack.state) w.same)

abbrev state_in : BookView → State
state_in b = b.traced.stack.state

pub after_leaves : CallsCount → (slots : ℕ) (failed : Option Completion) (old : BookView) (marked : TracedView) (event : Event) (reply : Reply) (new : BookView) → is_others event ≡ true → AreLooked slots old.traced marked
    → ServesAfter failed (record old { traced = marked }) event reply new → IsWhereItWas (state_in old) (state_in new)
after_leaves count slots failed old marked event reply new is looks after =
    where_then (state_in old) (state_in after.booked) (state_in new) (still_before count slots after.count old marked after.booked looks after.books).device (go after.serves)
  where
    held_leaves : (held : TracedView) → HoldsFailure failed after.booked.traced event held → IsWhereItWas (state_in after.booked) held.stack.state
    held_leaves held (inl same) = where_same (state_in after.booked) held.stack.state (ap (λ (v : TracedView). v.stack.state) same)
    held_leaves held (inr (tag, piece, completion, why, act, holds)) = where_same (state_in after.booked) held.stack.state (ap (λ (v : ManagerView). v.state) holds.books.same)

    go : ServesEvent failed after.booked event reply new ⊎ IsLastAct after.count (record old { traced = marked }) after.booked event reply new → IsWhereItWas (state_in after.booked) (state_in new)
    go (inl serves) = where_then (state_in after.booked) serves.held.stack.state (state_in new) (held_leaves serves.held serves.holds) (served_leaves 0 event reply serves.held new.traced is serves.served)
    go (inr last) = where_same (state_in after.booked) (state_in new) (ap state_in last.same)

call_after_leaves : CallsCount → (slots : ℕ) (before left : ShareView) (old : BookView) (marked : TracedView) (event : Event) (reply : Reply) (new : BookView) → is_others event ≡ true → AreLooked slots old.traced marked
    → CallsAfter before left (record old { traced = marked }) event reply new → IsWhereItWas (state_in old) (state_in new)
call_after_leaves count slots before left old marked event reply new is looks after =
    where_then (state_in old) (state_in after.booked) (state_in new) (still_before count slots after.count old marked after.booked looks after.books).device
    (served_leaves before.client event reply after.booked.traced new.traced is after.served)

-- the step of a client or of the adapter
pub step_leaves : CallsCount → (slots : ℕ) (share : Option (MutBor ShareView)) (left : Unit {0} ⊎ ((MutBor ShareView × Unit {0}) ⊎ ⊥)) (old : BookView) (event : Event) (reply : Reply) (new : BookView)
    → is_others event ≡ true → IsStepped slots share left old event reply new → steps_of (pnp_state (state_in new)) ≡ steps_of (pnp_state (state_in old))
step_leaves count slots share left old event reply new is stepped = count_stays (state_in old) (state_in new) (go share left stepped.serves)
  where
    go : (s : Option (MutBor ShareView)) (l : Unit {0} ⊎ ((MutBor ShareView × Unit {0}) ⊎ ⊥)) → ServesWith s l (record old { traced = stepped.marked }) event reply new → IsWhereItWas (state_in old) (state_in new)
    go None l after = after_leaves count slots None old stepped.marked event reply new is stepped.looks after
    go (Some s) (inr (inl l)) after = call_after_leaves count slots s.now l.0.now old stepped.marked event reply new is stepped.looks after
    go (Some s) (inl l) after = absurd after
    go (Some s) (inr (inr l)) after = absurd l

-- an answer is taken
pub answer_leaves : (old new : ManagerView) (number : ℕ) (taken : Option Answer) → TakesAnswerOf old number taken new → steps_of (pnp_state new.state) ≡ steps_of (pnp_state old.state)
answer_leaves old new number None (none, same) = ap (λ (v : ManagerView). steps_of (pnp_state v.state)) same
answer_leaves old new number (Some answer) (at, there, is, same) = ap (λ (v : ManagerView). steps_of (pnp_state v.state)) same

-- a step with no share, of an event that is the same
pub none_shared : (slots : ℕ) (share : Option (MutBor ShareView)) (left : Unit {0} ⊎ ((MutBor ShareView × Unit {0}) ⊎ ⊥)) (old : BookView) (event same : Event) (reply : Reply) (new : BookView) → share ≡ None → event ≡ same
    → IsStepped slots share left old event reply new → IsStepped slots None (inl tt) old same reply new
none_shared slots None left old event same reply new none is stepped =
    subst (λ (e : Event). IsStepped slots None (inl tt) old e reply new) is (record { marked = stepped.marked; looks = stepped.looks; serves = stepped.serves })
none_shared slots (Some share) left old event same reply new none is stepped = absurd (cc (none))

-- THE COUNT BEHIND A KEEPER'S CALL

pub moved_on : (request : Request) (before : PnpState) (reply : Reply) (new : State) → MovesDevice request before reply new → steps_of (left_behind reply request before) ≡ steps_of (pnp_state new)
moved_on request before OkReply new m = sym (m.moved refl)
moved_on request before (HandleReply handle) new m = sym (m.stays (λ e. cc (e)))
moved_on request before (Requested id) new m = sym (m.stays (λ e. cc (e)))
moved_on request before (Answered answer) new m = sym (m.stays (λ e. cc (e)))
moved_on request before (Refused reason bytes) new m = sym (m.stays (λ e. cc (e)))
moved_on request before Ignored new m = sym (m.stays (λ e. cc (e)))

stayed : (reply : Reply) (request : Request) (before : PnpState) → reply ≢ OkReply → left_behind reply request before ≡ before
stayed OkReply request before not = absurd (not refl)
stayed (HandleReply handle) request before not = refl
stayed (Requested id) request before not = refl
stayed (Answered answer) request before not = refl
stayed (Refused reason bytes) request before not = refl
stayed Ignored request before not = refl

pub goes_on : (request : Request) (before after : PnpState) (reply : Reply) (new : State) → MovesDevice request before reply new → after ≡ left_behind reply request before → GoesBy request before reply after
goes_on request before after reply new m is = record {
  accepted = m.accepted;
  invalid = m.invalid;
  moved = λ ok. is ∙ ap (λ (r : Reply). left_behind r request before) ok;
  stays = λ not. is ∙ stayed reply request before not;
}
