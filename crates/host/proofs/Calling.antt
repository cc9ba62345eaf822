-- What the trace tells of a client's call.
use Rattle.std.proofs.Common.{◌≡◌, ℕ, zero, suc, ◌+◌, ◌-◌, ◌<◌, ◌≤◌, ◌==◌, Bool, true, false, if◌then◌else◌, List, [], ◌∷◌, ◌++◌, length, map, Option, Some, None, refl, sym, ap, ◌∙◌, subst, arith, append_assoc, length-append, inl, inr}
use Rattle.std.specs.Prelude.{◌⊎◌, ◌^◌, slice_get, slice_index_or}
use Rattle.host.proofs.Common.{nat_tests, NtStatus, Success, ClientRequest, Kind, Label, AreDistinct, Rules, as_label, OpenHandle, InvalidHandle, InvalidParameter, DeletePending, DeviceBusy, InsufficientResources, InvalidDeviceRequest, NotFound, Event, Reply, are_used_up, bytes_called, call_on, partition_at, partition_of, status_of_refusal, without_bytes, IsWant, ManagerView, TraceEntry, entry, is_call, owner_of, row_of, LogView, State, noted, noted_all, AreNoCalls, open_at, ShareView, IsOpenOn, bytes_of}
use Rattle.srb.specs.declared.Kind.TheVariants.{Read as ReadKind, Write as WriteKind, Flush as FlushKind}
use Rattle.machine.specs.declared.Label.TheVariants.{Call as CallLabel, Answer as AnswerLabel}
use Rattle.io_manager.specs.declared.Handle.{Handle}
use Rattle.io_manager.specs.declared.Refusal.{Refusal}
use Rattle.compose.specs.declared.Event.TheVariants.{Read as ReadEvent, Write as WriteEvent, Flush as FlushEvent}
use Rattle.io_manager.specs.declared.Reply.TheVariants.{Handle as HandleReply, Ok as OkReply, Request as Requested, Answered, Refused, Ignored}
use Rattle.io_manager.specs.Right.{IsRight, IsRightBy, CallReplies, IsAdmitted, IsAnsweredAtOnce as AnswersAtOnce, IsSlotOf, IsTurnedAway, Told, TransferReplies, as_answer, end_labels, labels_of}
use Rattle.traced.specs.Traced.{TracedView, HasCounted as Counts, IsServed, IsWanting, log_of}
use Rattle.host.specs.declared.call.Call.{Call}
use Rattle.host.specs.declared.call.Call.TheVariants.{Read, Write, Flush}
use Rattle.host.specs.Calls.{FindsCall, HasCounted, IsAnsweredAtOnce, IsOpened, IsTold, Stands, asked, buffer_of, event_of, request_of}
use Rattle.host.proofs.Admitting.{holds_opened}
use Rattle.host.proofs.Quiet.{NoCalls, Still, quiet, rest_calls_none}

-- PLACES

some_same : {A : Type 0} {x y : A} → Some x ≡ Some y → x ≡ y
some_same {A} {x} {y} e = cc

none_at : (es : List TraceEntry) (k : ℕ) (e : TraceEntry) → NoCalls es → slice_get es k ≡ Some e → is_call e.label ≡ false
none_at [] k e none at = absurd (cc)
none_at (x ∷ es) zero e none at = ap (λ y. is_call y.label) (sym (some_same at)) ∙ none.0
none_at (x ∷ es) (suc k) e none at = none_at es k e none.1 at

apart : {A : Type 0} (b : Bool) → b ≡ true → b ≡ false → A
apart b e f = absurd (cc)

-- the one call behind these entries
at_call : (xs front back : List TraceEntry) (x : TraceEntry) (k : ℕ) (e : TraceEntry) → NoCalls front → NoCalls back → length xs ≤ k → slice_get (xs ++ (front ++ x ∷ back)) k ≡ Some e → is_call e.label ≡ true
    → k ≡ length xs + length front
at_call (y ∷ xs) front back x zero e f b less at is = absurd (omega arith)
at_call (y ∷ xs) front back x (suc k) e f b less at is = let r = at_call xs front back x k e f b (omega arith) at is in omega arith
at_call [] (y ∷ front) back x zero e f b less at is = apart (is_call e.label) is (none_at (y ∷ front) zero e f at)
at_call [] (y ∷ front) back x (suc k) e f b less at is = let r = at_call [] front back x k e f.1 b (omega arith) at is in omega arith
at_call [] [] back x zero e f b less at is = omega arith
at_call [] [] back x (suc k) e f b less at is = apart (is_call e.label) is (none_at back k e b at)

no_call_behind : (xs more : List TraceEntry) (k : ℕ) (e : TraceEntry) → NoCalls more → length xs ≤ k → slice_get (xs ++ more) k ≡ Some e → is_call e.label ≡ false
no_call_behind [] more k e none less at = none_at more k e none at
no_call_behind (x ∷ xs) more zero e none less at = absurd (omega arith)
no_call_behind (x ∷ xs) more (suc k) e none less at = no_call_behind xs more k e none (omega arith) at

pub get_behind : (xs ys : List TraceEntry) (j : ℕ) → slice_get (xs ++ ys) (length xs + j) ≡ slice_get ys j
get_behind [] ys j = ap (slice_get ys) (let z : 0 + j ≡ j = omega arith in z)
get_behind (x ∷ xs) ys j = ap (slice_get (x ∷ (xs ++ ys))) (let z : length (x ∷ xs) + j ≡ suc (length xs + j) = omega arith in z) ∙ get_behind xs ys j

get_last : (xs : List ℕ) (x : ℕ) → slice_get (xs ++ x ∷ []) (length xs) ≡ Some x
get_last [] x = refl
get_last (y ∷ xs) x = get_last xs x

-- a label of the request that comes next is the client's
owner_new : (owners : List ℕ) (number c : ℕ) → number ≡ length owners + 1 → owner_of (owners ++ c ∷ []) number ≡ Some c
owner_new owners number c next = ap (slice_get (owners ++ c ∷ [])) (let e : number - 1 ≡ length owners = omega arith in e) ∙ get_last owners c

-- A CALL AND WHAT STANDS BEHIND IT

-- these labels add a call of the client, and behind it no other
record AddsCall (client : ℕ) (p : LogView) (labels : List Label) (label : Label) (back : List TraceEntry) : Type 0 where
  entries : (noted_all client p labels).entries ≡ p.entries ++ (entry label (Some client) ∷ back)
  none : NoCalls back
  owners : length (noted_all client p labels).owners ≡ length p.owners + 1

called : (client : ℕ) (p : LogView) (labels rest : List Label) (n : ℕ) (q : ClientRequest) → labels ≡ CallLabel n q ∷ rest → AreNoCalls rest → n ≡ length p.owners + 1
    → (back : List TraceEntry) × AddsCall client p labels (CallLabel n q) back
called client p labels rest n q is none next =
    let quiet' = quiet client (noted client p (CallLabel n q)) rest none in
    let row : row_of (p.owners ++ client ∷ []) (CallLabel n q) ≡ Some client = owner_new p.owners n client next in (
      quiet'.more,
      record {
        entries = ap (λ ls. (noted_all client p ls).entries) is ∙ quiet'.entries ∙ append_assoc p.entries (entry (CallLabel n q) (row_of (p.owners ++ client ∷ []) (CallLabel n q)) ∷ []) quiet'.more
            ∙ ap (λ r. p.entries ++ (entry (CallLabel n q) r ∷ quiet'.more)) row;
        none = quiet'.none;
        owners = ap (λ ls. length (noted_all client p ls).owners) is ∙ ap length quiet'.owners ∙ length-append p.owners (client ∷ []);
      },
    )

-- with its answer right behind it
called_twice : (client : ℕ) (p : LogView) (labels : List Label) (n : ℕ) (q : ClientRequest) (s : NtStatus) (i : ℕ) (b : List ℕ) → labels ≡ CallLabel n q ∷ AnswerLabel n s i b ∷ []
    → n ≡ length p.owners + 1 → AddsCall client p labels (CallLabel n q) (entry (AnswerLabel n s i b) (Some client) ∷ [])
called_twice client p labels n q s i b is next =
    let row : owner_of (p.owners ++ client ∷ []) n ≡ Some client = owner_new p.owners n client next in
    record {
      entries = ap (λ ls. (noted_all client p ls).entries) is ∙ append_assoc p.entries (entry (CallLabel n q) (owner_of (p.owners ++ client ∷ []) n) ∷ []) (entry (AnswerLabel n s i b) (owner_of (p.owners ++ client ∷ []) n) ∷ [])
          ∙ ap (λ r. p.entries ++ (entry (CallLabel n q) r ∷ entry (AnswerLabel n s i b) r ∷ [])) row;
      none = (refl, tt);
      owners = ap (λ ls. length (noted_all client p ls).owners) is ∙ length-append p.owners (client ∷ []);
    }

-- THE BOOK BEFORE AND AFTER

-- a call is all that came behind the marks
record Comes (client : ℕ) (old new : TracedView) (label : Label) (back : List TraceEntry) : Type 0 where
  front : List TraceEntry
  entries : new.entries ≡ old.entries ++ (front ++ entry label (Some client) ∷ back)
  none_front : NoCalls front
  none_back : NoCalls back

comes : (client : ℕ) (old mid new : TracedView) (labels : List Label) (label : Label) (back : List TraceEntry) → Still old mid → new.entries ≡ (noted_all client (log_of mid) labels).entries
    → AddsCall client (log_of mid) labels label back → Comes client old new label back
comes client old mid new labels label back still is adds = record {
  front = still.more;
  entries = is ∙ adds.entries ∙ ap (λ es. es ++ (entry label (Some client) ∷ back)) still.entries ∙ append_assoc old.entries still.more (entry label (Some client) ∷ back);
  none_front = still.none;
  none_back = adds.none;
}

-- it is found
found : (client : ℕ) (old new : TracedView) (label : Label) (back : List TraceEntry) → is_call label ≡ true → Comes client old new label back → (place : Option ℕ) → FindsCall (length old.entries) new.entries place
    → (p : ℕ) × (place ≡ Some p) × Stands new.entries p label client × (slice_get new.entries (p + 1) ≡ slice_get back 0)
found client old new label back is comes None finds =
    let at : slice_get new.entries (length old.entries + length comes.front) ≡ Some (entry label (Some client)) = here in
    apart (is_call label) is (finds (length old.entries + length comes.front) (entry label (Some client)) (omega arith) at)
  where
    here : slice_get new.entries (length old.entries + length comes.front) ≡ Some (entry label (Some client))
    here = ap (λ es. slice_get es (length old.entries + length comes.front)) comes.entries
        ∙ get_behind old.entries (comes.front ++ entry label (Some client) ∷ back) (length comes.front)
        ∙ ap (slice_get (comes.front ++ entry label (Some client) ∷ back)) (let z : length comes.front ≡ length comes.front + 0 = omega arith in z)
        ∙ get_behind comes.front (entry label (Some client) ∷ back) 0
found client old new label back is comes (Some p) finds = (p, refl, subst (λ k. Stands new.entries k label client) (sym same) here, ap (slice_get new.entries) (let z : p + 1 ≡ length old.entries + (length comes.front + 1) = omega (arith, same) in z) ∙ behind)
  where
    same : p ≡ length old.entries + length comes.front
    same = at_call old.entries comes.front back (entry label (Some client)) p finds.1.0 comes.none_front comes.none_back finds.0 (ap (λ es. slice_get es p) (sym comes.entries) ∙ finds.1.1) finds.1.2

    here : slice_get new.entries (length old.entries + length comes.front) ≡ Some (entry label (Some client))
    here = ap (λ es. slice_get es (length old.entries + length comes.front)) comes.entries
        ∙ get_behind old.entries (comes.front ++ entry label (Some client) ∷ back) (length comes.front)
        ∙ ap (slice_get (comes.front ++ entry label (Some client) ∷ back)) (let z : length comes.front ≡ length comes.front + 0 = omega arith in z)
        ∙ get_behind comes.front (entry label (Some client) ∷ back) 0

    behind : slice_get new.entries (length old.entries + (length comes.front + 1)) ≡ slice_get back 0
    behind = ap (λ es. slice_get es (length old.entries + (length comes.front + 1))) comes.entries
        ∙ get_behind old.entries (comes.front ++ entry label (Some client) ∷ back) (length comes.front + 1)
        ∙ get_behind comes.front (entry label (Some client) ∷ back) 1

-- WHAT IS TOLD

-- a right call's own row
abbrev RightCall : ManagerView → Handle → ClientRequest → List ℕ → Reply → ManagerView → Type 0
RightCall old handle q buffer reply new = IsRight (CallReplies old handle q buffer reply new) old new

-- the labels of a request that was opened
opened_labels : (old : ManagerView) (handle : Handle) (q : ClientRequest) (slot number : ℕ) (told : Told) → IsAdmitted old handle q slot number told
    → labels_of told ≡ CallLabel number q ∷ ((map as_label told.device ++ map as_answer told.answers) ++ end_labels told.ends)
opened_labels old handle q slot number told a = ap (λ own. ((own ++ map as_label told.device) ++ map as_answer told.answers) ++ end_labels told.ends) a.own

at_once_labels : (old : ManagerView) (q : ClientRequest) (status : NtStatus) (new : ManagerView) (told : Told) → AnswersAtOnce old q status new told
    → labels_of told ≡ CallLabel old.state.next_request (without_bytes q) ∷ AnswerLabel old.state.next_request status 0 [] ∷ []
at_once_labels old q status new told a = ap labels_of a.tells

-- what a book needs of a carried call
record Carried (client : ℕ) (mid new : TracedView) (stepped : ManagerView) : Type 0 where
  entries : new.entries ≡ (noted_all client (log_of mid) stepped.labels).entries
  owners : new.owners ≡ (noted_all client (log_of mid) stepped.labels).owners
  stack : new.stack ≡ record stepped { labels = [] }

counted_one : (before after : ShareView) (mid new : TracedView) → Counts mid before after new → length new.owners ≡ length mid.owners + 1 → HasCounted before 1 after
counted_one before after mid new counts more = record { client = counts.client; handle = counts.handle; more = (let c = counts.calls in omega arith) }

counted_none : (before after : ShareView) (mid new : TracedView) → Counts mid before after new → new.owners ≡ mid.owners → HasCounted before 0 after
counted_none before after mid new counts same = record { client = counts.client; handle = counts.handle; more = (let c = counts.calls in let s = ap length same in omega arith) }

small_number : (n : ℕ) → are_used_up n ≡ false → n < 2 ^ 62
small_number n e = grind (arith, nat_tests, e)

slot_small : (most : Option ℕ) (slots slot : ℕ) → most ≡ Some slots → IsSlotOf most slot → slot < slots
slot_small most slots slot e s = subst (λ (m : Option ℕ). IsSlotOf m slot) e s

-- nothing was told
unheard : (old mid new : TracedView) (before after : ShareView) → Still old mid → Counts mid before after new → new.entries ≡ mid.entries → new.owners ≡ mid.owners
    → (place : Option ℕ) → FindsCall (length old.entries) new.entries place → (place ≡ None) × HasCounted before 0 after
unheard old mid new before after still counts entries owners None finds = (refl, counted_none before after mid new counts owners)
unheard old mid new before after still counts entries owners (Some p) finds =
    apart (is_call finds.1.0.label) finds.1.2 (no_call_behind old.entries still.more p finds.1.0 still.none finds.0 (ap (λ es. slice_get es p) (sym (entries ∙ still.entries)) ∙ finds.1.1))

module _ (slots : ℕ) (old mid new : TracedView) (before after : ShareView) (q : ClientRequest) (buffer : List ℕ) (stepped : ManagerView)
    (still : Still old mid) (next : mid.stack.state.next_request ≡ length mid.owners + 1) (rules : mid.stack.rules.open_requests ≡ Some slots)
    (sized : 0 < mid.stack.rules.sector_size) (distinct : AreDistinct mid.stack.state)
    (carried : Carried before.client mid new stepped) (counts : Counts mid before after new) where
  -- a request was opened
  opened : (handle : Handle) (slot number : ℕ) (told : Told) → IsRightBy false told mid.stack stepped → IsAdmitted mid.stack handle q slot number told
      → (place : Option ℕ) → FindsCall (length old.entries) new.entries place → (p : ℕ) × (place ≡ Some p) × IsOpened slots before after q new slot number p
  opened handle slot number told right a place finds =
      let number_is : number ≡ length mid.owners + 1 = a.next_number ∙ next in
      let adds = called before.client (log_of mid) stepped.labels ((map as_label told.device ++ map as_answer told.answers) ++ end_labels told.ends) number q (right.in_order ∙ opened_labels mid.stack handle q slot number told a) (rest_calls_none told) number_is in
      let f = found before.client old new (CallLabel number q) adds.0 refl (comes before.client old mid new stepped.labels (CallLabel number q) adds.0 still carried.entries adds.1) place finds in
      let limit = small_number mid.stack.state.next_request a.numbers_last in (
        f.0,
        f.1,
        record {
          counted = counted_one before after mid new counts (ap length carried.owners ∙ adds.1.owners);
          called = f.2;
          held = ap (λ (v : ManagerView). open_at v slot) carried.stack ∙ holds_opened mid.stack stepped handle.number q slot number told sized distinct a.not_refused a.next_number a.own a.only_starts a.holds.there right;
          in_range = slot_small mid.stack.rules.open_requests slots slot rules a.in_range;
          some_number = omega (arith, number_is);
          small = subst (λ (n : ℕ). n < 2 ^ 62) (sym a.next_number) limit;
        },
      )

  -- a call was answered at once
  at_once : (status : NtStatus) (stepped' : ManagerView) (told : Told) → stepped.labels ≡ labels_of told → AnswersAtOnce mid.stack q status stepped' told
      → (place : Option ℕ) → FindsCall (length old.entries) new.entries place
      → (p : ℕ) × (place ≡ Some p) × IsAnsweredAtOnce before after q new.entries mid.stack.state.next_request (AnswerLabel mid.stack.state.next_request status 0 []) p
  at_once status stepped' told order a place finds =
      let n : ℕ = mid.stack.state.next_request in
      let back : List TraceEntry = entry (AnswerLabel n status 0 []) (Some before.client) ∷ [] in
      let adds = called_twice before.client (log_of mid) stepped.labels n (without_bytes q) status 0 [] (order ∙ at_once_labels mid.stack q status stepped' told a) next in
      let f = found before.client old new (CallLabel n (without_bytes q)) back refl (comes before.client old mid new stepped.labels (CallLabel n (without_bytes q)) back still carried.entries adds) place finds in (
        f.0,
        f.1,
        record {
          counted = counted_one before after mid new counts (ap length carried.owners ∙ adds.owners);
          called = f.2;
          answered = f.3;
        },
      )

  no_labels : stepped.labels ≡ [] → (new.entries ≡ mid.entries) × (new.owners ≡ mid.owners)
  no_labels none = (carried.entries ∙ ap (λ ls. (noted_all before.client (log_of mid) ls).entries) none, carried.owners ∙ ap (λ ls. (noted_all before.client (log_of mid) ls).owners) none)

  turned_away : (reason : Refusal) (stepped' : ManagerView) (told : Told) → IsTurnedAway mid.stack q reason stepped' told → (labels_of told ≡ []) × IsWant reason
  turned_away DeviceBusy stepped' told t = (ap labels_of t.1.nothing, tt)
  turned_away InsufficientResources stepped' told t = (ap labels_of t.2.nothing, tt)
  turned_away _ stepped' told t = absurd t

  used_up : (reason : Refusal) (told : Told) → IsTurnedAway mid.stack q reason stepped told → reason ≡ DeviceBusy → are_used_up new.stack.state.next_request ≡ true
  used_up DeviceBusy told t busy = ap (λ (v : ManagerView). are_used_up v.state.next_request) carried.stack ∙ ap (λ (s : State). are_used_up s.next_request) t.1.same_state ∙ t.0
  used_up InsufficientResources told t busy = absurd (cc (busy))
  used_up _ told t busy = absurd t

  told_place : (reply : Reply) (p : ℕ) (place : Option ℕ) → place ≡ Some p → IsTold slots before after q buffer new reply (Some p) → IsTold slots before after q buffer new reply place
  told_place reply p place is t = subst (IsTold slots before after q buffer new reply) (sym is) t

  by_reply : (handle : Handle) (reply : Reply) (told : Told) → IsRightBy false told mid.stack stepped → TransferReplies mid.stack handle q buffer reply stepped told
      → (place : Option ℕ) → FindsCall (length old.entries) new.entries place → IsTold slots before after q buffer new reply place
  by_reply handle (Requested id) told right r place finds = let o = opened handle id.slot id.number told right r place finds in told_place (Requested id) o.0 place o.1 o.2
  by_reply handle (Answered answer) told right r place finds =
      let o = at_once Success stepped told right.in_order r.0 place finds in
      told_place (Answered answer) o.0 place o.1
      (subst (λ a. IsAnsweredAtOnce before after q new.entries a.number (as_answer a) o.0) (sym r.1) o.2)
  by_reply handle (Refused reason bytes) told right r place finds = refused r.1
    where
      refused : AnswersAtOnce mid.stack q (status_of_refusal reason) stepped told ⊎ IsTurnedAway mid.stack q reason stepped told → IsTold slots before after q buffer new (Refused reason bytes) place
      refused (inl a) = let o = at_once (status_of_refusal reason) stepped told right.in_order a place finds in told_place (Refused reason bytes) o.0 place o.1 (r.0, (mid.stack.state.next_request, o.2))
      refused (inr t) =
          let away = turned_away reason stepped told t in
          let same = no_labels (right.in_order ∙ away.0) in
          let u = unheard old mid new before after still counts same.0 same.1 place finds in
          subst (IsTold slots before after q buffer new (Refused reason bytes)) (sym u.0) (r.0, away.1, u.1, used_up reason told t)
  by_reply handle (HandleReply given) told right r place finds = absurd r
  by_reply handle _ told right r place finds = absurd r

same_number : (n : ℕ) → (n == n) ≡ true
same_number n = grind (arith, nat_tests)

-- the request of a call on an open handle
asked_on : (v : ManagerView) (handle : Handle) (partition : ℕ) (kind : Kind) (offset : ℕ) (buffer : List ℕ) (through : Bool) → IsOpenOn v.handles handle partition
    → call_on v handle kind offset buffer through ≡ asked partition kind offset buffer through
asked_on v handle partition kind offset buffer through is =
    ap (λ (p : Option ℕ). record { partition = p; kind = kind; offset = offset; length = length buffer; through = through; bytes = bytes_called kind buffer }) open'
  where
    open' : partition_of v.handles handle ≡ Some partition
    open' = ap (λ (h : Option OpenHandle). partition_at h handle.number) is ∙ ap (λ (b : Bool). if b then Some partition else None) (same_number handle.number)

-- what is told of a call that the book served
module _ (slots partition : ℕ) (old mid new : TracedView) (before after : ShareView) (reply : Reply) (place : Option ℕ)
    (still : Still old mid) (next : old.stack.state.next_request ≡ length old.owners + 1) (rules : old.stack.rules.open_requests ≡ Some slots)
    (sized : 0 < old.stack.rules.sector_size) (distinct : AreDistinct old.stack.state) (is : IsOpenOn old.stack.handles before.handle partition) (counts : Counts mid before after new) (finds : FindsCall (length old.entries) new.entries place) where
  next_mid : mid.stack.state.next_request ≡ length mid.owners + 1
  next_mid = still.next ∙ next ∙ ap (λ (os : List ℕ). length os + 1) (sym still.owners)

  rules_mid : mid.stack.rules.open_requests ≡ Some slots
  rules_mid = ap (λ r. r.open_requests) still.rules ∙ rules

  sized_mid : 0 < mid.stack.rules.sector_size
  sized_mid = subst (λ (r : Rules). 0 < r.sector_size) (sym still.rules) sized

  is_mid : IsOpenOn mid.stack.handles before.handle partition
  is_mid = ap (λ hs. slice_index_or hs before.handle.slot None) still.handles ∙ is

  -- it was carried out
  carried_out : (kind : Kind) (offset : ℕ) (buffer : List ℕ) (through : Bool) (stepped : ManagerView) → Carried before.client mid new stepped
      → IsRight (CallReplies mid.stack before.handle (call_on mid.stack before.handle kind offset buffer through) buffer reply stepped) mid.stack stepped
      → IsTold slots before after (asked partition kind offset buffer through) buffer new reply place
  carried_out kind offset buffer through stepped carried r =
      subst (λ (q : ClientRequest). IsTold slots before after q buffer new reply place) (asked_on mid.stack before.handle partition kind offset buffer through is_mid)
      (by_reply slots old mid new before after (call_on mid.stack before.handle kind offset buffer through) buffer stepped still next_mid rules_mid sized_mid (still.distinct distinct) carried counts before.handle reply r.told r.by r.replies.replies place finds)

  -- or memory was refused
  wanting : (event : Event) (q : ClientRequest) → IsWanting mid event reply new → IsTold slots before after q (bytes_of event) new reply place
  wanting event q w =
      let u = unheard old mid new before after still counts (ap (λ b. b.entries) w.same) (ap (λ b. b.owners) w.same) place finds in
      subst (λ (r : Reply). IsTold slots before after q (bytes_of event) new r place) (sym w.replies)
      (subst (IsTold slots before after q (bytes_of event) new (Refused InsufficientResources (bytes_of event))) (sym u.0) (refl, tt, u.1, λ e. absurd (cc (e))))

  by_call : (call : Call) → IsServed before.client mid (event_of before.handle call) reply new → IsTold slots before after (request_of partition call) (buffer_of call) new reply place
  by_call (Read offset buffer) (inl c) = carried_out ReadKind offset buffer false c.stepped (record { entries = c.entries; owners = c.owners; stack = c.stack }) c.right
  by_call (Read offset buffer) (inr w) = wanting (ReadEvent before.handle offset buffer) (request_of partition (Read offset buffer)) w
  by_call (Write offset bytes through) (inl c) = carried_out WriteKind offset bytes through c.stepped (record { entries = c.entries; owners = c.owners; stack = c.stack }) c.right
  by_call (Write offset bytes through) (inr w) = wanting (WriteEvent before.handle offset bytes through) (request_of partition (Write offset bytes through)) w
  by_call Flush (inl c) = carried_out FlushKind 0 [] false c.stepped (record { entries = c.entries; owners = c.owners; stack = c.stack }) c.right
  by_call Flush (inr w) = wanting (FlushEvent before.handle) (request_of partition Flush) w

pub told_call : (slots partition : ℕ) (call : Call) (old mid new : TracedView) (before after : ShareView) (reply : Reply) (place : Option ℕ)
    → Still old mid → old.stack.state.next_request ≡ length old.owners + 1 → old.stack.rules.open_requests ≡ Some slots → 0 < old.stack.rules.sector_size → AreDistinct old.stack.state
    → IsOpenOn old.stack.handles before.handle partition
    → IsServed before.client mid (event_of before.handle call) reply new → Counts mid before after new → FindsCall (length old.entries) new.entries place
    → IsTold slots before after (request_of partition call) (buffer_of call) new reply place
told_call slots partition call old mid new before after reply place still next rules sized distinct is served counts finds =
    by_call slots partition old mid new before after reply place still next rules sized distinct is counts finds call served
