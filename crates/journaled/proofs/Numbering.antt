-- The number that the next call takes, and the rooms of the requests before it.
use Rattle.journaled.proofs.Common.{◌≡◌, ◌<◌, ◌≤◌, ◌⊎◌, inl, inr, ℕ, suc, ◌+◌, ◌-◌, ◌^◌, Bool, true, false, cond, List, [], ◌∷◌, ◌++◌, length, map, take, drop, Option, Some, None, refl, sym, ap, subst, ◌∙◌, arith, zero-add, append-nil, length-append, All, MatchOption, min, nat_eq, nat_lt, position, position_or_len, remove, remove-append_right, is_position_or_len, nat_tests, All-cons, All-head, All-tail, All-append, All-take, All-drop, All-weaker, ClientRequest, Label, Rules, State, Run, as_label, AreFrom, CallsCount, CallsRise, call_numbers, DeviceLabel, Answer, Handle, Id, Refusal, Reply, ManagerView, are_used_up, number_limit, status_of_refusal, Event, CallsFirst, IsNoCall, IsTransferEvent, StepsCallOnce, IsRight, led, Reservation, without, is_of, IsBelow, next_behind}
use Rattle.machine.specs.declared.Label.TheVariants.{Call, Device, Answer as AnswerLabel, Cancel, Pause, Resume, Remove as RemoveLabel, Surprise, Removed as RemovedLabel}
use Rattle.io_manager.specs.declared.Refusal.TheVariants.{InvalidHandle, InvalidParameter, DeletePending, DeviceBusy, InsufficientResources, InvalidDeviceRequest, NotFound}
use Rattle.io_manager.specs.declared.Reply.TheVariants.{Handle as HandleReply, Ok as Done, Request as Requested, Answered, Refused, Ignored}
use Rattle.io_manager.specs.Right.{CallReplies, IsAnsweredAtOnce, IsRight as IsRightCall, IsTurnedAway, Told, TransferReplies, as_answer, end_labels, labels_of}
use Rattle.compose.specs.declared.Event.TheVariants.{Open, Close, Read, Write, Flush, CancelIoEx, Mark, QueryRemove, CancelRemove, Remove, SurpriseRemove, Act, Finish, Reset}

-- NO CALL AMONG LABELS

no_calls : (next : ℕ) (labels : List Label) → All IsNoCall labels → (next_behind next labels ≡ next) × (call_numbers labels ≡ [])
no_calls next [] h = (refl, refl)
no_calls next (Call number q ∷ ls) h = absurd (All-head IsNoCall (Call number q) ls h)
no_calls next (_ ∷ ls) h = no_calls next ls (All-tail IsNoCall _ ls h)

-- the first label is no call, or numbers are left for it
abbrev MayCall : ℕ → List Label → Type 0
MayCall next [] = Unit {0}
MayCall next (label ∷ labels) = IsNoCall label ⊎ (are_used_up next ≡ false)

not_used_up : (next : ℕ) → are_used_up next ≡ false → next + 1 ≤ 2 ^ 64 - 1
not_used_up next h =
    let low : next < number_limit = grind (arith, nat_tests) in
    let limit : number_limit ≡ 4611686018427387904 = refl in
    let most : 2 ^ 64 ≡ 18446744073709551616 = refl in
    omega (arith, low, limit, most)

min_same : (n most : ℕ) → n ≤ most → min n most ≡ n
min_same n most le = omega (arith, le)

uncounted : CallsCount → (rules : Rules) (s : State) (labels : List Label) (s' : State) → Run rules s labels s' → All IsNoCall labels → next_behind s.next_request labels ≡ s'.next_request
uncounted count rules s labels s' run none =
    let h : (next_behind s.next_request labels ≡ s.next_request) × (call_numbers labels ≡ []) = no_calls s.next_request labels none in
    let all : s'.next_request ≡ s.next_request + length (call_numbers labels) = count rules s labels s' run in
    let none_called : length (call_numbers labels) ≡ 0 = ap (λ (ns : List ℕ). length ns) h.1 in
    let same : s'.next_request ≡ s.next_request = omega (arith, all, none_called) in
    h.0 ∙ sym same

-- what one call at most leaves
counted : CallsRise → CallsCount → (rules : Rules) (s : State) (label : Label) (labels : List Label) (s' : State) → Run rules s (label ∷ labels) s' → IsNoCall label ⊎ (are_used_up s.next_request ≡ false) → All IsNoCall labels
    → next_behind s.next_request (label ∷ labels) ≡ s'.next_request
counted rise count rules s (Call number q) labels s' run (inl no_call) none = absurd no_call
counted rise count rules s (Call number q) labels s' run (inr left) none =
    let from : AreFrom s.next_request (number ∷ call_numbers labels) = rise rules s (Call number q ∷ labels) s' run in
    let all : s'.next_request ≡ s.next_request + length (number ∷ call_numbers labels) = count rules s (Call number q ∷ labels) s' run in
    let rest : call_numbers labels ≡ [] = (no_calls 0 labels none).1 in
    let one : length (number ∷ call_numbers labels) ≡ 1 = ap (λ (ns : List ℕ). length (number ∷ ns)) rest in
    let next : s'.next_request ≡ s.next_request + 1 = all ∙ ap (λ (n : ℕ). s.next_request + n) one in
    (no_calls (min (number + 1) (2 ^ 64 - 1)) labels none).0
    ∙ ap (λ (n : ℕ). min (n + 1) (2 ^ 64 - 1)) from.0
    ∙ min_same (s.next_request + 1) (2 ^ 64 - 1) (not_used_up s.next_request left)
    ∙ sym next
counted rise count rules s other labels s' run may none = uncounted count rules s (other ∷ labels) s' run (All-cons IsNoCall other labels tt none)

-- A STEP

may_call : (next : ℕ) (labels : List Label) → are_used_up next ≡ false → MayCall next labels
may_call next [] left = tt
may_call next (label ∷ labels) left = inr left

may_call_none : (next : ℕ) (labels : List Label) → labels ≡ [] → MayCall next labels
may_call_none next labels none = subst (λ (ls : List Label). MayCall next ls) (sym none) tt

none_told : (old : ManagerView) (told : Told) (labels : List Label) → labels ≡ labels_of told → told.own ≡ [] → told.device ≡ [] → told.answers ≡ [] → told.ends ≡ false → labels ≡ []
none_told old told labels e own device answers ends = e ∙ empty told.own told.device told.answers told.ends own device answers ends
  where
    empty : (own : List Label) (device : List DeviceLabel) (answers : List Answer) (ends : Bool) → own ≡ [] → device ≡ [] → answers ≡ [] → ends ≡ false
        → ((own ++ map as_label device) ++ map as_answer answers) ++ end_labels ends ≡ []
    empty own device answers ends a b c d = rw (a, b, c, d) refl

turned_may : (old : ManagerView) (q : ClientRequest) (reason : Refusal) (new : ManagerView) (told : Told) → new.labels ≡ labels_of told
    → IsAnsweredAtOnce old q (status_of_refusal reason) new told ⊎ IsTurnedAway old q reason new told → MayCall old.state.next_request new.labels
turned_may old q reason new told e (inl h) = may_call _ new.labels h.numbers_last
turned_may old q DeviceBusy new told e (inr h) =
    may_call_none _ new.labels
    (none_told old told new.labels e (ap (λ (t : Told). t.own) h.1.nothing) (ap (λ (t : Told). t.device) h.1.nothing) (ap (λ (t : Told). t.answers) h.1.nothing) (ap (λ (t : Told). t.ends) h.1.nothing))
turned_may old q InsufficientResources new told e (inr h) = may_call _ new.labels h.0
turned_may old q _ new told e (inr h) = absurd h

reply_may : (old : ManagerView) (handle : Handle) (q : ClientRequest) (buffer : List ℕ) (reply : Reply) (new : ManagerView) (told : Told) → new.labels ≡ labels_of told
    → TransferReplies old handle q buffer reply new told → MayCall old.state.next_request new.labels
reply_may old handle q buffer (Requested id) new told e h = may_call _ new.labels h.numbers_last
reply_may old handle q buffer (Answered answer) new told e h = may_call _ new.labels h.0.numbers_last
reply_may old handle q buffer (Refused reason bytes) new told e h = turned_may old q reason new told e h.1
reply_may old handle q buffer _ new told e h = absurd h

first_may : (event : Event) (next : ℕ) (labels : List Label) → (IsTransferEvent event → ⊥) → CallsFirst event labels → MayCall next labels
first_may event next [] other h = tt
first_may event next (label ∷ labels) other h = elim h.0 [ inl no_call ↦ inl no_call | inr transfer ↦ absurd (other transfer) ]

event_may : StepsCallOnce → (old : ManagerView) (event : Event) (reply : Reply) (new : ManagerView) → IsRight old event reply new → MayCall old.state.next_request new.labels
event_may once old (Read handle offset buffer) reply new h = reply_may old handle _ buffer reply new h.told h.by.in_order h.replies.replies
event_may once old (Write handle offset bytes through) reply new h = reply_may old handle _ bytes reply new h.told h.by.in_order h.replies.replies
event_may once old (Flush handle) reply new h = reply_may old handle _ [] reply new h.told h.by.in_order h.replies.replies
event_may once old other reply new h = first_may other _ new.labels (λ asked. asked) (once old other reply new h)

rest_none : (event : Event) (label : Label) (labels : List Label) → CallsFirst event (label ∷ labels) → All IsNoCall labels
rest_none event label labels h = h.1

by_labels : CallsRise → CallsCount → (rules : Rules) (s : State) (event : Event) (labels : List Label) (s' : State) → Run rules s labels s' → CallsFirst event labels → MayCall s.next_request labels → next_behind s.next_request labels ≡ s'.next_request
by_labels rise count rules s event [] s' run first may = run.next_request
by_labels rise count rules s event (label ∷ labels) s' run first may = counted rise count rules s label labels s' run may first.1

-- the labels of a step count its call
pub step_counts : CallsRise → CallsCount → StepsCallOnce → (old : ManagerView) (event : Event) (reply : Reply) (new : ManagerView) → IsRight old event reply new → next_behind old.state.next_request new.labels ≡ new.state.next_request
step_counts rise count once old event reply new right =
    by_labels rise count old.rules old.state event new.labels new.state (led old event reply new right).by.run (once old event reply new right) (event_may once old event reply new right)

-- numbers never fall
pub step_rises : CallsCount → (old : ManagerView) (event : Event) (reply : Reply) (new : ManagerView) → IsRight old event reply new → old.state.next_request ≤ new.state.next_request
step_rises count old event reply new right =
    let all : new.state.next_request ≡ old.state.next_request + length (call_numbers new.labels) = count old.rules old.state new.labels new.state (led old event reply new right).by.run in
    omega (arith, all)

-- A REQUEST THAT IS OPENED TAKES THE NEXT NUMBER

pub record IsOpened (old new : ManagerView) (number : ℕ) : Type 0 where
  pub next : number ≡ old.state.next_request
  pub counted : new.state.next_request ≡ old.state.next_request + 1

module _ (count : CallsCount) (once : StepsCallOnce) (old new : ManagerView) (event : Event) (run : Run old.rules old.state new.labels new.state) (first : CallsFirst event new.labels) where
  opened_as_next : (number : ℕ) (q : ClientRequest) (rest : List Label) → new.labels ≡ Call number q ∷ rest → number ≡ old.state.next_request → IsOpened old new number
  opened_as_next number q rest labels next =
      let none : All IsNoCall rest = rest_none event (Call number q) rest (subst (λ (ls : List Label). CallsFirst event ls) labels first) in
      let all : new.state.next_request ≡ old.state.next_request + length (call_numbers new.labels) = count old.rules old.state new.labels new.state run in
      let one : length (call_numbers new.labels) ≡ 1 =
      ap (λ (ls : List Label). length (call_numbers ls)) labels ∙ ap (λ (ns : List ℕ). length (number ∷ ns)) (no_calls 0 rest none).1 in
      record { next = next; counted = all ∙ ap (λ (n : ℕ). old.state.next_request + n) one }

opened_call : CallsCount → StepsCallOnce → (old new : ManagerView) (event : Event) (handle : Handle) (q : ClientRequest) (buffer : List ℕ) (id : Id) → CallsFirst event new.labels
    → IsRightCall (CallReplies old handle q buffer (Requested id) new) old new → IsOpened old new id.number
opened_call count once old new event handle q buffer id first h =
    opened_as_next count once old new event h.by.run first id.number q ((map as_label h.told.device ++ map as_answer h.told.answers) ++ end_labels h.told.ends)
    (h.by.in_order ∙ ap (λ (o : List Label). ((o ++ map as_label h.told.device) ++ map as_answer h.told.answers) ++ end_labels h.told.ends) h.replies.replies.own) h.replies.replies.next_number

-- a request that a step opened took the next number
pub step_opens : CallsCount → StepsCallOnce → (old : ManagerView) (event : Event) (id : Id) (new : ManagerView) → IsRight old event (Requested id) new → IsOpened old new id.number
step_opens count once old (Read handle offset buffer) id new h = opened_call count once old new (Read handle offset buffer) handle _ buffer id (once old (Read handle offset buffer) (Requested id) new h) h
step_opens count once old (Write handle offset bytes through) id new h = opened_call count once old new (Write handle offset bytes through) handle _ bytes id (once old (Write handle offset bytes through) (Requested id) new h) h
step_opens count once old (Flush handle) id new h = opened_call count once old new (Flush handle) handle _ [] id (once old (Flush handle) (Requested id) new h) h
step_opens count once old Reset id new h = absurd (let k : Requested id ≡ Done = h.0 in cc)
step_opens count once old _ id new h = absurd h.replies

-- RESERVATIONS

pub below_more : (next more : ℕ) (rs : List Reservation) → next ≤ more → All (IsBelow next) rs → All (IsBelow more) rs
below_more next more rs le h = All-weaker (IsBelow next) (IsBelow more) (λ (r : Reservation) low. further r low) rs h
  where
    further : (r : Reservation) → IsBelow next r → IsBelow more r
    further r low = let lt : r.request < next = low in omega (arith, lt, le)

-- the first of this number, or as many as there are
abbrev first_of : ℕ → List Reservation → ℕ
first_of number [] = 0
first_of number (r ∷ rs) = cond (is_of number r) 0 (1 + first_of number rs)

first_is : (number : ℕ) (rs : List Reservation) → first_of number rs ≡ position_or_len (is_of number) rs
first_is number rs = is_position_or_len (first_of number) (is_of number) refl (λ r rs. refl) rs

is_not_of : (number : ℕ) (r : Reservation) → r.request < number → is_of number r ≡ false
is_not_of number r low = grind (arith, nat_tests)

is_its_own : (n : ℕ) → nat_eq n n ≡ true
is_its_own n = grind (arith, nat_tests)

none_first : (number : ℕ) (rs rest : List Reservation) → All (IsBelow number) rs → first_of number (rs ++ rest) ≡ length rs + first_of number rest
none_first number [] rest h = sym (zero-add _)
none_first number (r ∷ rs) rest h =
    let other : is_of number r ≡ false = is_not_of number r (All-head (IsBelow number) r rs h) in
    let more : first_of number (rs ++ rest) ≡ length rs + first_of number rest = none_first number rs rest (All-tail (IsBelow number) r rs h) in
    ap (λ (b : Bool). cond b 0 (1 + first_of number (rs ++ rest))) other ∙ ap (λ (n : ℕ). 1 + n) more ∙ (let e : 1 + (length rs + first_of number rest) ≡ suc (length rs) + first_of number rest = omega arith in e)

position_there : (number : ℕ) (rs : List Reservation) (at : ℕ) → first_of number rs ≡ at → at < length rs → position (is_of number) rs ≡ Some at
position_there number rs at is low =
    let e : position_or_len (is_of number) rs ≡ at = sym (first_is number rs) ∙ is in
    ap (λ (n : ℕ). cond (nat_lt n (length rs)) (Some n) None) e ∙ ap (λ (b : Bool). cond b (Some at) None) (is_below at (length rs) low)
  where
    is_below : (m n : ℕ) → m < n → nat_lt m n ≡ true
    is_below m n h = grind (arith, nat_tests)

position_nowhere : (number : ℕ) (rs : List Reservation) → first_of number rs ≡ length rs → position (is_of number) rs ≡ None
position_nowhere number rs is =
    let e : position_or_len (is_of number) rs ≡ length rs = sym (first_is number rs) ∙ is in
    ap (λ (n : ℕ). cond (nat_lt n (length rs)) (Some n) None) e ∙ ap (λ (b : Bool). cond b (Some (length rs)) None) (not_below (length rs))
  where
    not_below : (n : ℕ) → nat_lt n n ≡ false
    not_below n = grind (arith, nat_tests)

-- with all of lower numbers nothing is of this one
pub none_goes : (number : ℕ) (old new : List Reservation) → All (IsBelow number) old → without number old new → new ≡ old
none_goes number old new below gone =
    let first : first_of number (old ++ []) ≡ length old + 0 = none_first number old [] below in
    let at : first_of number old ≡ length old = ap (λ (rs : List Reservation). first_of number rs) (sym (append-nil old)) ∙ first ∙ (let e : length old + 0 ≡ length old = omega arith in e) in
    subst (λ (found : Option ℕ). MatchOption found (new ≡ old) (λ (at : ℕ). new ≡ remove old at)) (position_nowhere number old at) gone

-- and the last goes where it is
pub last_goes : (number : ℕ) (old new : List Reservation) (r : Reservation) → All (IsBelow number) old → r.request ≡ number → without number (old ++ r ∷ []) new → new ≡ old
last_goes number old new r below is gone =
    let own : is_of number r ≡ true = ap (λ (n : ℕ). nat_eq n number) is ∙ is_its_own number in
    let first : first_of number (old ++ r ∷ []) ≡ length old + first_of number (r ∷ []) = none_first number old (r ∷ []) below in
    let at_once : first_of number (r ∷ []) ≡ 0 = ap (λ (b : Bool). cond b 0 (1 + 0)) own in
    let at : first_of number (old ++ r ∷ []) ≡ length old = omega (arith, first, at_once) in
    let long : length (old ++ r ∷ []) ≡ length old + 1 = length-append old (r ∷ []) in
    let low : length old < length (old ++ r ∷ []) = omega (arith, long) in
    let removed : new ≡ remove (old ++ r ∷ []) (length old) =
    subst (λ (found : Option ℕ). MatchOption found (new ≡ old ++ r ∷ []) (λ (at : ℕ). new ≡ remove (old ++ r ∷ []) at)) (position_there number (old ++ r ∷ []) (length old) at low) gone in
    removed ∙ remove-append_right old (r ∷ []) (length old) (length old) refl (omega arith)
    ∙ ap (λ (n : ℕ). old ++ remove (r ∷ []) n) (let e : length old - length old ≡ 0 = omega arith in e)
    ∙ append-nil old

pub below_without : (next number : ℕ) (old new : List Reservation) → without number old new → All (IsBelow next) old → All (IsBelow next) new
below_without next number old new gone below = by (position (is_of number) old) gone
  where
    by : (found : Option ℕ) → MatchOption found (new ≡ old) (λ (at : ℕ). new ≡ remove old at) → All (IsBelow next) new
    by None same = subst (λ (rs : List Reservation). All (IsBelow next) rs) (sym same) below
    by (Some at) removed =
        subst (λ (rs : List Reservation). All (IsBelow next) rs) (sym removed)
        (All-append (IsBelow next) (take at old) (drop (suc at) old) (All-take (IsBelow next) at old below) (All-drop (IsBelow next) (suc at) old below))
