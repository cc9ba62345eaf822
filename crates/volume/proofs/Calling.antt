-- A call on a stack on which nothing else is open: it goes, or ends at once.
use Rattle.volume.proofs.Common.{◌≡◌, ◌<◌, ◌≤◌, ◌⊎◌, inl, inr, ℕ, ◌+◌, ◌-◌, ◌/◌, Bool, true, false, List, [], ◌∷◌, ◌++◌, Option, Some, None, refl, sym, ◌∙◌, ap, subst, arith, length, take, drop, map, All, Any, IsPermutation, IsNone, IsFalse, slice_get, ◌&&◌, ◌==◌, not, nat_le, is_none, is_some, if◌then◌else◌, concat, nat_tests, mod-add-div', All-append, All-cons, All-nil, IsPermutation-sym, IsPermutation-trans, IsPermutation-append_right, IsPermutation-append_comm, NtStatus, when, first_some, IsIn, IsSector, sectors_in, DeviceLabel, Kind, Read, Write, Flush, ClientRequest, Label, Call, Answer, Rules, is_transfer, is_in_bounds, place_count, OpenRequest, Owed, State, IsSame, refusal, is_full, Opens, Refuses, Admits, bytes_carried, Step, Run, as_label, Run-append, none_there, IsReached, Handle, Id, Refusal, InvalidHandle, InvalidParameter, DeletePending, DeviceBusy, InsufficientResources, InvalidDeviceRequest, NotFound, Reply, ManagerView, number_limit, status_of_refusal, without_bytes, Event, AreUsable, IsIdle, IsReady, IsBetween, IsQuiet, answers_of, Quietly, Goes, Asks, Leaves, Looks, ComesTo, Ends, HasReason, Turns, disk_first, sectors_on, IsRead}
use Rattle.ntstatus.specs.declared.NtStatus.TheVariants.{Success, InvalidHandle as InvalidHandleStatus, InvalidParameter as InvalidParameterStatus, DeletePending as DeletePendingStatus, DeviceBusy as DeviceBusyStatus, InsufficientResources as ResourcesStatus, InvalidDeviceRequest as RequestStatus, NotFound as FoundStatus}
use Rattle.io_manager.specs.declared.Answer.{Answer as AnswerOf}
use Rattle.io_manager.specs.declared.Reply.TheVariants.{Handle as HandleReply, Request as Requested, Answered, Refused}
use Rattle.io_manager.specs.Right.{Told, IsRight as IsRightCall, IsRightBy, SameHandles, CallReplies, IsAdmitted, IsAnsweredAtOnce, IsTurnedAway, TakesAnswer, as_answer, end_labels}
use Rattle.compose.specs.declared.Event.TheVariants.{Open, Close, Read as ReadEvent, Write as WriteEvent, Flush as FlushEvent, CancelIoEx, Mark, QueryRemove, CancelRemove, Remove, SurpriseRemove, Act, Finish, Reset}
use Rattle.compose.specs.Right.{IsRight}
use Rattle.volume.proofs.Steps.{answers-append, rest_of, quiet_rest, untaken_told, goes_on_reached}
use Rattle.volume.proofs.Untraced.{untraced, forgotten}
use Rattle.volume.proofs.Disk.{same_sectors}
use Rattle.volume.proofs.Ending.{in_bounds}

-- WHAT AN EVENT ASKS

-- a right call of this request, which brings as many bytes as it says
pub record IsCalled (old : ManagerView) (q : ClientRequest) (reply : Reply) (new : ManagerView) : Type 0 where
  pub handle : Handle
  pub buffer : List ℕ
  pub right : IsRightCall (CallReplies (untraced old) handle q buffer reply new) (untraced old) new
  pub carries : length q.bytes ≡ bytes_carried q.kind q.length

pub called : (old : ManagerView) (event : Event) (q : ClientRequest) (reply : Reply) (new : ManagerView) → Asks old event q → IsRight (untraced old) event reply new → IsCalled old q reply new
called old (ReadEvent handle offset buffer) q reply new e h = record {
  handle = handle;
  buffer = buffer;
  right = subst (λ (r : ClientRequest). IsRightCall (CallReplies (untraced old) handle r buffer reply new) (untraced old) new) (sym e) h;
  carries = subst (λ (r : ClientRequest). length r.bytes ≡ bytes_carried r.kind r.length) (sym e) refl;
}
called old (WriteEvent handle offset bytes through) q reply new e h = record {
  handle = handle;
  buffer = bytes;
  right = subst (λ (r : ClientRequest). IsRightCall (CallReplies (untraced old) handle r bytes reply new) (untraced old) new) (sym e) h;
  carries = subst (λ (r : ClientRequest). length r.bytes ≡ bytes_carried r.kind r.length) (sym e) refl;
}
called old (FlushEvent handle) q reply new e h = record {
  handle = handle;
  buffer = [];
  right = subst (λ (r : ClientRequest). IsRightCall (CallReplies (untraced old) handle r [] reply new) (untraced old) new) (sym e) h;
  carries = subst (λ (r : ClientRequest). length r.bytes ≡ bytes_carried r.kind r.length) (sym e) refl;
}
called old (Open partition) q reply new e h = absurd e
called old (Close handle) q reply new e h = absurd e
called old (CancelIoEx handle target) q reply new e h = absurd e
called old (Mark number) q reply new e h = absurd e
called old QueryRemove q reply new e h = absurd e
called old CancelRemove q reply new e h = absurd e
called old Remove q reply new e h = absurd e
called old SurpriseRemove q reply new e h = absurd e
called old (Act tag) q reply new e h = absurd e
called old (Finish tag) q reply new e h = absurd e
called old Reset q reply new e h = absurd e

pub no_handle : (old : ManagerView) (q : ClientRequest) (given : Handle) (new : ManagerView) → IsCalled old q (HandleReply given) new → ⊥
no_handle old q given new h = h.right.replies.replies

-- IT GOES

module _ (old : ManagerView) (ready : IsReady old) (handle : Handle) (q : ClientRequest) (slot number : ℕ) (new : ManagerView) (told : Told)
    (admitted : IsAdmitted (untraced old) handle q slot number told) (by : IsRightBy false told (untraced old) new) where
  labels_are : new.labels ≡ Call number q ∷ rest_of told
  labels_are = by.in_order ∙ ap (λ o. ((o ++ map as_label told.device) ++ map as_answer told.answers) ++ end_labels told.ends) admitted.own

  abbrev run : Run old.rules old.state (Call number q ∷ rest_of told) new.state
  run = subst (λ ls. Run old.rules old.state ls new.state) labels_are by.run

  opens_by : (s' : State) → Step old.rules old.state (Call number q) s' → Opens old.rules old.state number q s'
  opens_by s' (inl h) = subst (λ answer. Admits old.rules old.state number q answer s') admitted.not_refused h.1.admits
  opens_by s' (inr h) = absurd h

  none_before : answers_of (rest_of told) ++ map as_answer old.answers ≡ answers_of (rest_of told)
  none_before = ap (λ xs. answers_of (rest_of told) ++ map as_answer xs) ready.no_answers ∙ no_more (answers_of (rest_of told))
    where
      no_more : {X : Type 0} (xs : List X) → xs ++ [] ≡ xs
      no_more [] = refl
      no_more (x ∷ xs) = ap (λ ys. x ∷ ys) (no_more xs)

  pub goes : SameHandles (untraced old) new → Goes old number q (forgotten new)
  goes handles = record {
    called = run.0;
    is_next = admitted.next_number;
    opens = opens_by run.0 run.1;
    labels = rest_of told;
    quiet = quiet_rest told;
    run = run.2;
    untaken = subst (λ ls. IsPermutation (map as_answer new.answers) ls) none_before (untaken_told told old.answers new.answers by.untaken);
    same_rules = by.same_rules;
    outside = by.outside;
    handles = record { handles = handles.handles; next_handle = handles.next_handle };
  }

-- ENDS AT ONCE

-- what a call that ends at once leaves of the machine
pub record Rests (s s' : State) : Type 0 where
  pub arrays : s'.arrays ≡ s.arrays
  pub idle : IsIdle s'
  pub asked : s'.next_request ≤ s.next_request + 1
  pub none_sent : s'.next_piece ≡ s.next_piece

rests_same : (s s' : State) → IsIdle s → s' ≡ s → Rests s s'
rests_same s s' idle e = subst (λ (t : State). Rests s t) (sym e) (record { arrays = refl; idle = idle; asked = omega arith; none_sent = refl })

-- a refused call, and its answer
rests_refused : (rules : Rules) (s : State) (number : ℕ) (q : ClientRequest) (status : NtStatus) (s' : State) → IsIdle s → number ≡ s.next_request → refusal rules s q ≡ Some status
    → Run rules s (Call number q ∷ Answer number status 0 [] ∷ []) s' → Rests s s'
rests_refused rules s number q status s' idle is_next refused run = by run.0 run.1 run.2.0 run.2.1 run.2.2
  where
    refuses : (mid : State) → Step rules s (Call number q) mid → Refuses s number status q mid
    refuses mid (inl h) = subst (λ answer. Admits rules s number q answer mid) refused h.1.admits
    refuses mid (inr h) = absurd h

    by : (mid : State) → Step rules s (Call number q) mid → (last : State) → Step rules mid (Answer number status 0 []) last → IsSame last s' → Rests s s'
    by mid first last (inl h) same =
        let r : Refuses s number status q mid = refuses mid first in
        let e : IsNone {T = Owed} (Some (record { number = number; status = status })) = subst (λ (o : Option Owed). IsNone o) r.after.owed h.0 in
        absurd (let k : true ≡ false = e in cc)
    by mid first last (inr h) same =
        let r : Refuses s number status q mid = refuses mid first in
        let none_mid : mid.requests ≡ [] = none_there s.requests mid.requests idle.none_open (IsPermutation-sym _ _ r.after.requests) in
        let none_last : last.requests ≡ [] = none_there mid.requests last.requests none_mid (IsPermutation-sym _ _ h.after.requests) in
        let out_mid : mid.pieces ≡ [] = none_there s.pieces mid.pieces idle.none_out (IsPermutation-sym _ _ r.after.pieces) in
        let out_last : last.pieces ≡ [] = none_there mid.pieces last.pieces out_mid (IsPermutation-sym _ _ h.after.pieces) in
        let next : s'.next_request ≡ number + 1 = sym same.next_request ∙ h.after.next_request ∙ r.after.next_request in
        record {
          arrays = sym same.arrays ∙ h.after.arrays ∙ r.after.arrays;
          idle = record {
            none_open = none_there last.requests s'.requests none_last same.requests;
            none_out = none_there last.pieces s'.pieces out_last same.pieces;
            none_owed = subst (λ (o : Option Owed). IsNone o) (sym (sym same.owed ∙ h.after.owed)) refl;
            not_paused = sym same.paused ∙ h.after.paused ∙ r.after.paused ∙ idle.not_paused;
            not_removing = sym same.removing ∙ h.after.removing ∙ r.after.removing ∙ idle.not_removing;
          };
          asked = omega arith;
          none_sent = sym same.next_piece ∙ h.after.next_piece ∙ r.after.next_piece;
        }

-- what it leaves of the stack
module _ (old : ManagerView) (ready : IsReady old) (new : ManagerView) (told : Told) (by : IsRightBy false told (untraced old) new) (handles : SameHandles (untraced old) new) (read : IsRead new.rules new.state new.adapter)
    (rests : Rests old.state new.state) (none_told : told.answers ≡ []) where
  pub same_disk : new.adapter.sectors ≡ old.adapter.sectors
  same_disk =
      same_sectors old.adapter.sectors new.adapter.sectors old.rules.partitions
      (ap (λ (r : Rules). map (sectors_in new.adapter.sectors) r.partitions) (sym by.same_rules) ∙ sym read.arrays ∙ rests.arrays ∙ ready.read.arrays)
      by.outside

  pub leaves_rest : Leaves old (forgotten new)
  leaves_rest = record {
    ready = record {
      usable = subst AreUsable (sym by.same_rules) ready.usable;
      idle = rests.idle;
      reached = subst (λ rules. IsReached rules new.state) (sym by.same_rules) (goes_on_reached old.rules old.state new.labels new.state ready.reached by.run);
      read = read;
      whole_sectors =
          subst (λ (r : Rules). All (IsSector r.sector_size) new.adapter.sectors) (sym by.same_rules)
          (subst (λ xs. All (IsSector old.rules.sector_size) xs) (sym same_disk) ready.whole_sectors);
      no_labels = refl;
      no_answers = none_there (told.answers ++ old.answers) new.answers (ap (λ xs. xs ++ old.answers) none_told ∙ ready.no_answers) (IsPermutation-sym _ _ by.untaken);
    };
    same_rules = by.same_rules;
    handles = record { handles = handles.handles; next_handle = handles.next_handle };
    asked = rests.asked;
  }

-- WHY

-- what refuses a request on an open handle of an idle stack
record IsRefusedFor (rules : Rules) (q : ClientRequest) (status : NtStatus) : Type 0 where
  why : ((status ≡ InvalidParameterStatus) × (is_transfer q.kind ≡ true) × (is_in_bounds rules q ≡ false))
      ⊎ ((status ≡ Success) × (is_transfer q.kind ≡ true) × (is_in_bounds rules q ≡ true) × ((q.length == 0) ≡ true))

refused_for : (rules : Rules) (s : State) (q : ClientRequest) (status : NtStatus) → IsIdle s → IsFalse (is_full rules.open_requests 0) → is_none q.partition ≡ false → refusal rules s q ≡ Some status
    → IsRefusedFor rules q status
refused_for rules s q status idle takes_one known refused =
    by (is_none q.partition) s.removing (is_transfer q.kind) (is_in_bounds rules q) (q.length == 0) (is_full rules.open_requests (length s.requests))
    known idle.not_removing (ap (λ (os : List OpenRequest). is_full rules.open_requests (length os)) idle.none_open ∙ takes_one) refl refl refl refused
  where
    by : (none removing transfer bounds empty full : Bool) → none ≡ false → removing ≡ false → full ≡ false → is_transfer q.kind ≡ transfer → is_in_bounds rules q ≡ bounds → (q.length == 0) ≡ empty
        → first_some (when none InvalidHandleStatus ∷ when removing DeletePendingStatus ∷ when (transfer && not bounds) InvalidParameterStatus ∷ when (transfer && empty) Success ∷ when full DeviceBusyStatus ∷ []) ≡ Some status
        → IsRefusedFor rules q status
    by true removing transfer bounds empty full a b c t i z h = absurd (let k : true ≡ false = a in cc)
    by false true transfer bounds empty full a b c t i z h = absurd (let k : true ≡ false = b in cc)
    by false false true false empty full a b c t i z h = record { why = inl (let k : Some InvalidParameterStatus ≡ Some status = h in cc, t, i) }
    by false false true true true full a b c t i z h = record { why = inr (let k : Some Success ≡ Some status = h in cc, t, i, z) }
    by false false true true false true a b c t i z h = absurd (let k : true ≡ false = c in cc)
    by false false true true false false a b c t i z h = absurd (let k : None ≡ Some status = h in cc)
    by false false false bounds empty true a b c t i z h = absurd (let k : true ≡ false = c in cc)
    by false false false bounds empty false a b c t i z h = absurd (let k : None ≡ Some status = h in cc)

-- the reason that a client is told
reason_of : (old : ManagerView) (q : ClientRequest) (reason : Refusal) → IsRefusedFor old.rules q (status_of_refusal reason) → HasReason old q reason
reason_of old q InvalidParameter h = elim h.why [
  | inl bounds ↦ (bounds.1, bounds.2)
  | inr success ↦ absurd (let k : InvalidParameterStatus ≡ Success = success.0 in cc)
]
reason_of old q InvalidHandle h = elim h.why [
  | inl bounds ↦ absurd (let k : InvalidHandleStatus ≡ InvalidParameterStatus = bounds.0 in cc)
  | inr success ↦ absurd (let k : InvalidHandleStatus ≡ Success = success.0 in cc)
]
reason_of old q DeletePending h = elim h.why [
  | inl bounds ↦ absurd (let k : DeletePendingStatus ≡ InvalidParameterStatus = bounds.0 in cc)
  | inr success ↦ absurd (let k : DeletePendingStatus ≡ Success = success.0 in cc)
]
reason_of old q DeviceBusy h = elim h.why [
  | inl bounds ↦ absurd (let k : DeviceBusyStatus ≡ InvalidParameterStatus = bounds.0 in cc)
  | inr success ↦ absurd (let k : DeviceBusyStatus ≡ Success = success.0 in cc)
]
reason_of old q InsufficientResources h = elim h.why [
  | inl bounds ↦ absurd (let k : ResourcesStatus ≡ InvalidParameterStatus = bounds.0 in cc)
  | inr success ↦ absurd (let k : ResourcesStatus ≡ Success = success.0 in cc)
]
reason_of old q InvalidDeviceRequest h = elim h.why [
  | inl bounds ↦ absurd (let k : RequestStatus ≡ InvalidParameterStatus = bounds.0 in cc)
  | inr success ↦ absurd (let k : RequestStatus ≡ Success = success.0 in cc)
]
reason_of old q NotFound h = elim h.why [
  | inl bounds ↦ absurd (let k : FoundStatus ≡ InvalidParameterStatus = bounds.0 in cc)
  | inr success ↦ absurd (let k : FoundStatus ≡ Success = success.0 in cc)
]

-- A REQUEST OF NO BYTES

no_bytes : (bytes : List ℕ) → length bytes ≡ 0 → bytes ≡ []
no_bytes [] h = refl
no_bytes (x ∷ xs) h = absurd (omega arith)

is_empty : (n : ℕ) → (n == 0) ≡ true → n ≡ 0
is_empty n h = grind (arith, nat_tests)

none_carried : (kind : Kind) → bytes_carried kind 0 ≡ 0
none_carried Write = refl
none_carried Read = refl
none_carried Flush = refl

-- its call and its answer
comes_at_once : (rules : Rules) (s : State) (q : ClientRequest) (s' : State) → q.bytes ≡ [] → Run rules s (Call s.next_request (without_bytes q) ∷ Answer s.next_request Success 0 [] ∷ []) s'
    → ComesTo rules s q Success s'
comes_at_once rules s q s' none run = record {
  labels = Answer s.next_request Success 0 [] ∷ [];
  quiet = All-cons IsQuiet (Answer s.next_request Success 0 []) [] tt (All-nil IsQuiet);
  run = subst (λ bytes. Run rules s (Call s.next_request (record q { bytes = bytes }) ∷ Answer s.next_request Success 0 [] ∷ []) s') (sym none) run;
  informed = 0;
  bytes = [];
  answers = refl;
}

-- none of its places
no_places : (rules : Rules) (q : ClientRequest) → is_transfer q.kind ≡ true → q.length ≡ 0 → place_count rules q ≡ 0
no_places rules q transfer none =
    ap (λ b. if b then q.length / rules.sector_size else 1) transfer ∙ ap (λ n. n / rules.sector_size) none ∙ zero_div rules.sector_size
  where
    zero_div : (size : ℕ) → 0 / size ≡ 0
    zero_div size = omega (arith, mod-add-div' 0 size)

no_sectors : (rules : Rules) (q : ClientRequest) (sectors : List (List ℕ)) → place_count rules q ≡ 0 → concat (sectors_on rules q sectors) ≡ []
no_sectors rules q sectors none =
    let f : ℕ = disk_first rules q in
    let e : f + place_count rules q - f ≡ 0 = omega arith in
    ap (λ n. concat (take n (drop f sectors))) e ∙ ap concat (take_none (drop f sectors))
  where
    take_none : (xs : List (List ℕ)) → take 0 xs ≡ []
    take_none [] = refl
    take_none (x ∷ xs) = refl

module _ (old : ManagerView) (ready : IsReady old) (q : ClientRequest) (known : is_none q.partition ≡ false) (new : ManagerView) (told : Told) (by : IsRightBy false told (untraced old) new)
    (handles : SameHandles (untraced old) new) (read : IsRead new.rules new.state new.adapter) where
  run_at_once : (status : NtStatus) → IsAnsweredAtOnce (untraced old) q status new told
      → Run old.rules old.state (Call old.state.next_request (without_bytes q) ∷ Answer old.state.next_request status 0 [] ∷ []) new.state
  run_at_once status h =
      let own : told.own ≡ Call old.state.next_request (without_bytes q) ∷ Answer old.state.next_request status 0 [] ∷ [] = ap (λ (t : Told). t.own) h.tells in
      let none : told.answers ≡ [] = ap (λ (t : Told). t.answers) h.tells in
      let device : told.device ≡ [] = ap (λ (t : Told). t.device) h.tells in
      let ends : told.ends ≡ false = ap (λ (t : Told). t.ends) h.tells in
      let labels : new.labels ≡ Call old.state.next_request (without_bytes q) ∷ Answer old.state.next_request status 0 [] ∷ [] = by.in_order ∙ told_is told.own told.device told.answers told.ends own device none ends in
      subst (λ ls. Run old.rules old.state ls new.state) labels by.run
    where
      told_is : (own : List Label) (device : List DeviceLabel) (answers : List AnswerOf) (ends : Bool) → own ≡ Call old.state.next_request (without_bytes q) ∷ Answer old.state.next_request status 0 [] ∷ []
          → device ≡ [] → answers ≡ [] → ends ≡ false
          → ((own ++ map as_label device) ++ map as_answer answers) ++ end_labels ends ≡ Call old.state.next_request (without_bytes q) ∷ Answer old.state.next_request status 0 [] ∷ []
      told_is own device answers ends a b c d = rw (a, b, c, d) refl

  told_at_once : (status : NtStatus) → IsAnsweredAtOnce (untraced old) q status new told → Rests old.state new.state
  told_at_once status h =
      rests_refused old.rules old.state old.state.next_request (without_bytes q) status new.state ready.idle refl h.is_refused (run_at_once status h)

  turned_at_once : (reason : Refusal) → IsAnsweredAtOnce (untraced old) q (status_of_refusal reason) new told → Turns old q reason (forgotten new)
  turned_at_once reason h =
      let rests : Rests old.state new.state = told_at_once (status_of_refusal reason) h in
      let none : told.answers ≡ [] = ap (λ (t : Told). t.answers) h.tells in
      record {
        leaves = leaves_rest old ready new told by handles read rests none;
        why = reason_of old q reason (refused_for old.rules old.state q (status_of_refusal reason) ready.idle ready.usable.takes_one known h.is_refused);
        same_sectors = same_disk old ready new told by handles read rests none;
        none_sent = rests.none_sent;
      }

  turned_still : (reason : Refusal) → told.answers ≡ [] → new.state ≡ old.state → HasReason old q reason → Turns old q reason (forgotten new)
  turned_still reason none same why =
      let rests : Rests old.state new.state = rests_same old.state new.state ready.idle same in
      record { leaves = leaves_rest old ready new told by handles read rests none; why = why; same_sectors = same_disk old ready new told by handles read rests none; none_sent = rests.none_sent }

  turned_away : (reason : Refusal) → IsTurnedAway (untraced old) q reason new told → Turns old q reason (forgotten new)
  turned_away DeviceBusy h = turned_still DeviceBusy (ap (λ (t : Told). t.answers) h.1.nothing) h.1.same_state (used_up h.0)
    where
      used_up : nat_le number_limit old.state.next_request ≡ true → number_limit ≤ old.state.next_request
      used_up h = grind (arith, nat_tests)
  turned_away InsufficientResources h = turned_still InsufficientResources (ap (λ (t : Told). t.answers) h.2.nothing) h.2.same_state (in_bounds old.rules old.state q h.1)
  turned_away InvalidHandle h = absurd h
  turned_away InvalidParameter h = absurd h
  turned_away DeletePending h = absurd h
  turned_away InvalidDeviceRequest h = absurd h
  turned_away NotFound h = absurd h

  pub turns : (reason : Refusal) → IsAnsweredAtOnce (untraced old) q (status_of_refusal reason) new told ⊎ IsTurnedAway (untraced old) q reason new told → Turns old q reason (forgotten new)
  turns reason (inl h) = turned_at_once reason h
  turns reason (inr h) = turned_away reason h

  -- one of no bytes succeeds
  pub ends_empty : (answer : AnswerOf) → length q.bytes ≡ bytes_carried q.kind q.length → IsAnsweredAtOnce (untraced old) q Success new told
      → answer ≡ record { number = old.state.next_request; status = Success; information = 0; bytes = [] } → Ends old q answer (forgotten new)
  ends_empty answer carries h is = elim (refused_for old.rules old.state q Success ready.idle ready.usable.takes_one known h.is_refused).why [
    | inl bounds ↦ absurd (let k : Success ≡ InvalidParameterStatus = bounds.0 in cc)
    | inr success ↦
        let rests : Rests old.state new.state = told_at_once Success h in
        let none : told.answers ≡ [] = ap (λ (t : Told). t.answers) h.tells in
        let same : new.adapter.sectors ≡ old.adapter.sectors = same_disk old ready new told by handles read rests none in
        let empty : q.length ≡ 0 = is_empty q.length success.3 in
        let count : place_count old.rules q ≡ 0 = no_places old.rules q success.1 empty in
        let long : length q.bytes ≡ 0 = carries ∙ ap (λ n. bytes_carried q.kind n) empty ∙ none_carried q.kind in
        record {
          leaves = leaves_rest old ready new told by handles read rests none;
          comes_to =
              subst (λ status. ComesTo old.rules old.state q status new.state) (sym (ap (λ (a : AnswerOf). a.status) is))
              (comes_at_once old.rules old.state q new.state (no_bytes q.bytes long) (run_at_once Success h));
          in_bounds = λ transfer. success.2;
          reads = λ is_read ok. ap (λ (a : AnswerOf). a.bytes) is ∙ sym (no_sectors old.rules q old.adapter.sectors count);
          writes = λ is_write ok.
              no_sectors old.rules q new.adapter.sectors count ∙ sym (no_bytes q.bytes long);
          changes = λ is_write. record { elsewhere = λ i out. ap (λ xs. slice_get xs i) same; each = λ place low. inl (ap (λ xs. slice_get xs (disk_first old.rules q + place)) same) };
          same = λ other. same;
          sent = λ has_place. absurd (let none : 0 < 0 = subst (λ n. 0 < n) count (has_place (ap (λ (a : AnswerOf). a.status) is)) in omega arith);
        }
  ]

-- AND GOES ON

pub goes_further : (before : ManagerView) (number : ℕ) (q : ClientRequest) (mid new : ManagerView) → Goes before number q mid → Quietly mid new → Goes before number q new
goes_further before number q mid new g h = record {
  called = g.called;
  is_next = g.is_next;
  opens = g.opens;
  labels = g.labels ++ h.labels;
  quiet = All-append IsQuiet g.labels h.labels g.quiet h.quiet;
  run = Run-append before.rules g.called g.labels mid.state h.labels new.state g.run (subst (λ rules. Run rules mid.state h.labels new.state) g.same_rules h.run);
  untaken =
      subst (λ ls. IsPermutation (map as_answer new.answers) ls) (sym (answers-append g.labels h.labels))
      (IsPermutation-trans _ _ _ h.untaken
      (IsPermutation-trans _ _ _ (IsPermutation-append_right (answers_of h.labels) (map as_answer mid.answers) (answers_of g.labels) g.untaken)
      (IsPermutation-append_comm (answers_of h.labels) (answers_of g.labels))));
  same_rules = h.same_rules ∙ g.same_rules;
  outside = λ sector apart. h.outside sector (subst (λ (rules : Rules). Any (IsIn sector) rules.partitions → ⊥) (sym g.same_rules) apart) ∙ g.outside sector apart;
  handles = record { handles = h.handles.handles ∙ g.handles.handles; next_handle = h.handles.next_handle ∙ g.handles.next_handle };
}

-- no answer was found yet
pub none_yet : (old : ManagerView) (answer : Option AnswerOf) (now : ManagerView) → Looks old answer now → is_some answer ≡ false → Quietly old now × IsBetween now × (now.answers ≡ [])
none_yet old None now h none = (
  subst (λ (v : ManagerView). Quietly old v) (sym h.takes.1) h.quietly,
  subst IsBetween (sym h.takes.1) h.between,
  ap (λ (v : ManagerView). v.answers) h.takes.1 ∙ h.takes.0,
)
none_yet old (Some answer) now h none = absurd (let k : true ≡ false = none in cc)

-- A CALL, BY ITS REPLY

pub goes_called : (old : ManagerView) → IsReady old → (q : ClientRequest) (id : Id) (new : ManagerView) → IsCalled old q (Requested id) new → Goes old id.number q (forgotten new)
goes_called old ready q id new h = goes old ready h.handle q id.slot id.number new h.right.told h.right.replies.replies h.right.by h.right.replies.handles

pub turns_called : (old : ManagerView) → IsReady old → (q : ClientRequest) → is_none q.partition ≡ false → (reason : Refusal) (bytes : List ℕ) (new : ManagerView) → IsCalled old q (Refused reason bytes) new → IsRead new.rules new.state new.adapter
    → Turns old q reason (forgotten new)
turns_called old ready q known reason bytes new h read = turns old ready q known new h.right.told h.right.by h.right.replies.handles read reason h.right.replies.replies.1

pub ends_called : (old : ManagerView) → IsReady old → (q : ClientRequest) → is_none q.partition ≡ false → (answer : AnswerOf) (new : ManagerView) → IsCalled old q (Answered answer) new → IsRead new.rules new.state new.adapter
    → Ends old q answer (forgotten new)
ends_called old ready q known answer new h read =
    ends_empty old ready q known new h.right.told h.right.by h.right.replies.handles read answer h.carries h.right.replies.replies.0 h.right.replies.replies.1
