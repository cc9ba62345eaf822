-- A run leaves out a place of each write that it answers DEVICE_BUSY.
use Rattle.std.proofs.Common.{◌≡◌, ◌≢◌, ◌<◌, ◌≤◌, ◌⊎◌, inl, inr, ℕ, zero, suc, ◌+◌, Bool, true, false, List, [], ◌∷◌, Option, Some, None, refl, sym, ◌∙◌, ap, subst, arith, length, get_or}
use Rattle.std.specs.Prelude.{IsNone, IsTrue, All, Contains, slice_get}
use Rattle.std.specs.List.{list_all}
use Rattle.std.proofs.lemmas.List.Sorted.{IsPermutation-sym, All-permutation, Contains-permutation}
use Rattle.std.proofs.lemmas.List.Elements.{All-nil, All-cons, All-head, All-tail, All-contains}
use Rattle.ntstatus.specs.declared.NtStatus.{NtStatus}
use Rattle.ntstatus.specs.declared.NtStatus.TheVariants.{Success, DeviceBusy, InvalidHandle, InvalidParameter, DeletePending}
use Rattle.ntstatus.specs.First.{when, first_some}
use Rattle.srb.specs.declared.DeviceLabel.TheVariants.{Start, Act, Fault, Return}
use Rattle.machine.specs.declared.ClientRequest.{ClientRequest}
use Rattle.machine.specs.declared.Label.{Label}
use Rattle.machine.specs.declared.Label.TheVariants.{Call, Device, Answer, Cancel, Pause, Resume, Remove, Surprise, Removed}
use Rattle.machine.specs.Rules.{Rules, place_count}
use Rattle.machine.specs.State.{Mark, Untouched, Out, Done, Failed, Back, OpenRequest, Owed, State, opening}
use Rattle.machine.specs.Marks.{IsEarned, HasEarned, HaveEarned}
use Rattle.machine.specs.Cutting.{mark_at}
use Rattle.machine.specs.Calling.{refusal, Admits}
use Rattle.machine.specs.Sending.{array_at}
use Rattle.machine.specs.Answering.{is_done, HasCause}
use Rattle.machine.specs.Pieces.{ArePlaced}
use Rattle.machine.specs.Step.{Step, Run}
use Rattle.machine.proofs.Earned.{HaveEarned-Step, HaveEarned-opening}
use Rattle.machine.proofs.Placed.{ArePlaced-Step, ArePlaced-opening}
use Rattle.machine_laws.specs.Along.{Sometime}
use Rattle.machine_laws.specs.Reached.{AreWhole}
use Rattle.machine_laws.specs.NumberLaws.{AreFrom, call_numbers}
use Rattle.machine_laws.proofs.Opened.{Brings, brings_step}
use Rattle.machine_laws.proofs.Serving.{IsSized}
use Rattle.machine_laws.proofs.Sound.{IsSound, IsSound-Step, IsSound-opening}
use Rattle.history_laws.specs.History.{history_of, IsOfService, of_service, IsExplained}
use Rattle.history_laws.specs.Schedules.{Event, Seen, Effect, labels_of, IsAt, IsNoAnswer, IsNoEffect, TookEffect, MayFollow}
use Rattle.history_laws.proofs.Mirroring.{IsMarkFor, IsMirrored, IsFollowed, IsBelow, Mirrors, further, newest}
use Rattle.history_laws.proofs.Sending.{Mirrors-Starts, Mirrors-Faults, Mirrors-Returns, Mirrors-Cancels}
use Rattle.history_laws.proofs.Calling.{Mirrors-Calls}
use Rattle.history_laws.proofs.Answering.{Mirrors-Answers, Mirrors-AnswersRefused}
use Rattle.history_laws.proofs.Acting.{Mirrors-Acts}
use Rattle.history_runs.specs.Laws.{AreScheduled, BusyLeavePlaces, ExplainedLeavePlaces}
use Rattle.machine_laws.proofs.Awaiting.{calls_rise}

-- the label answers the request DEVICE_BUSY, and this place of it came back busy
record IsLeftBy (n k : ℕ) (q : ClientRequest) (s : State) (label : Label) (s' : State) : Type 0 where
  informed : ℕ
  bytes : List ℕ
  is_answer : label ≡ Answer n DeviceBusy informed bytes
  request : OpenRequest
  is_open : Contains s.requests request
  is_number : request.number ≡ n
  is_request : request.request ≡ q
  inside : k < length request.marks
  is_back : mark_at request k ≡ Back

-- NO EFFECT THERE

-- what was answered takes no effect any more
no_effect_after : (rules : Rules) (p i : ℕ) (start : List ℕ) (events past : List Event) (n : ℕ) (status : NtStatus) (informed : ℕ) (bytes : List ℕ) → MayFollow rules p i start past events
    → Contains past (Seen (Answer n status informed bytes)) → All (IsNoEffect n) events
no_effect_after rules p i start [] past n status informed bytes h there = All-nil (IsNoEffect n)
no_effect_after rules p i start (Effect m sector ∷ events) past n status informed bytes h there =
    let other : n ≢ m = All-contains (IsNoAnswer m) past (Seen (Answer n status informed bytes)) h.0.is_open.awaits there in
    All-cons (IsNoEffect n) (Effect m sector) events (λ e. other (sym e))
    (no_effect_after rules p i start events (Effect m sector ∷ past) n status informed bytes h.1 (further (Effect m sector) past (Seen (Answer n status informed bytes)) there))
no_effect_after rules p i start (Seen label ∷ events) past n status informed bytes h there =
    All-cons (IsNoEffect n) (Seen label) events tt
    (no_effect_after rules p i start events (Seen label ∷ past) n status informed bytes h.1 (further (Seen label) past (Seen (Answer n status informed bytes)) there))

-- so far and from here on
abbrev IsIdle : ℕ → List Event → List Event → Type 0
IsIdle n past events = All (IsNoEffect n) past × All (IsNoEffect n) events

idle_later : (n : ℕ) (event : Event) (past events : List Event) → IsIdle n (event ∷ past) events → IsIdle n past (event ∷ events)
idle_later n event past events h =
    (All-tail (IsNoEffect n) event past h.0, All-cons (IsNoEffect n) event events (All-head (IsNoEffect n) event past h.0) h.1)

module _ (rules : Rules) (p i : ℕ) (start : List ℕ) (faithful : IsTrue rules.faithful) where
  -- a schedule of the run's labels, in which a place that is left has no effect
  record Leads (past : List Event) (s : State) (labels : List Label) (s' : State) (run : Run rules s labels s') : Type 0 where
    events : List Event
    in_turn : MayFollow rules p i start past events
    seen : labels_of events ≡ history_of labels
    idle : (n k : ℕ) (q : ClientRequest) → Sometime (IsLeftBy n k q) rules s labels s' run → IsAt rules p i q k → IsIdle n past events

  -- at the answer itself
  idle_here : (past events : List Event) (s : State) (m : ℕ) (status : NtStatus) (informed : ℕ) (bytes : List ℕ) (s' : State) → Mirrors rules p i start past s
      → MayFollow rules p i start (Seen (Answer m status informed bytes) ∷ past) events → (n k : ℕ) (q : ClientRequest) → IsLeftBy n k q s (Answer m status informed bytes) s' → IsAt rules p i q k
      → IsIdle n past (Seen (Answer m status informed bytes) ∷ events)
  idle_here past events s m status informed bytes s' mirrors follows n k q h at =
      let number : m ≡ n = number_of h.is_answer in
      let mine : IsMirrored rules p i past h.request = All-contains (IsMirrored rules p i past) s.requests h.request mirrors.requests h.is_open in
      let marked : IsMarkFor rules p i past h.request.number h.request.request k Back = subst (λ mark. IsMarkFor rules p i past h.request.number h.request.request k mark) h.is_back (mine.marks k Untouched h.inside) in
      let before : All (IsNoEffect h.request.number) past = marked (subst (λ r. IsAt rules p i r k) (sym h.is_request) at) in
      let after : All (IsNoEffect m) events =
      no_effect_after rules p i start events (Seen (Answer m status informed bytes) ∷ past) m status informed bytes follows (newest (Seen (Answer m status informed bytes)) past) in
      (subst (λ v. All (IsNoEffect v) past) h.is_number before, All-cons (IsNoEffect n) (Seen (Answer m status informed bytes)) events tt (subst (λ v. All (IsNoEffect v) events) number after))
    where
      number_of : {a b c d : ℕ} {st : NtStatus} {xs ys : List ℕ} → Answer a st c xs ≡ Answer b DeviceBusy d ys → a ≡ b
      number_of e = cc (e)

  leads : (labels : List Label) (past : List Event) (s s' : State) → IsSound rules s → ArePlaced s → Mirrors rules p i start past s → (run : Run rules s labels s') → All IsOfService labels
      → Leads past s labels s' run
  leads [] past s s' sound placed m run serving = record { events = []; in_turn = tt; seen = refl; idle = λ n k q some at. absurd some }
  leads (Call n q ∷ labels) past s s' sound placed m (mid, inl (free, h), rest) serving =
      let next = leads labels (Seen (Call n q) ∷ past) mid s' (IsSound-Step rules s (Call n q) mid sound (inl (free, h))) (ArePlaced-Step rules s (Call n q) mid sound.0 placed (inl (free, h)))
      (Mirrors-Calls rules p i start past s n q mid sound free m h) rest (All-tail IsOfService (Call n q) labels serving) in
      record {
        events = Seen (Call n q) ∷ next.events;
        in_turn = (tt, next.in_turn);
        seen = ap (λ xs. Call n q ∷ xs) next.seen;
        idle = λ v k r some at. elim some [ inl here ↦ absurd (cc (here.is_answer)) | inr later ↦ idle_later v (Seen (Call n q)) past next.events (next.idle v k r later at) ];
      }
  leads (Call n q ∷ labels) past s s' sound placed m (mid, inr none, rest) serving = absurd none
  leads (Answer n status informed bytes ∷ labels) past s s' sound placed m (mid, inl (free, h), rest) serving =
      let seen = Mirrors-Answers rules p i start past s n status informed bytes mid sound free m h.answers in
      let next = leads labels (Seen (Answer n status informed bytes) ∷ past) mid s' (IsSound-Step rules s (Answer n status informed bytes) mid sound (inl (free, h)))
      (ArePlaced-Step rules s (Answer n status informed bytes) mid sound.0 placed (inl (free, h))) seen.1 rest (All-tail IsOfService (Answer n status informed bytes) labels serving) in
      record {
        events = Seen (Answer n status informed bytes) ∷ next.events;
        in_turn = (seen.0, next.in_turn);
        seen = ap (λ xs. Answer n status informed bytes ∷ xs) next.seen;
        idle = λ v k r some at. elim some [
          | inl here ↦ idle_here past next.events s n status informed bytes mid m next.in_turn v k r here at
          | inr later ↦ idle_later v (Seen (Answer n status informed bytes)) past next.events (next.idle v k r later at)
        ];
      }
  leads (Answer n status informed bytes ∷ labels) past s s' sound placed m (mid, inr h, rest) serving =
      let seen = Mirrors-AnswersRefused rules p i start past s n status informed bytes mid m h in
      let next = leads labels (Seen (Answer n status informed bytes) ∷ past) mid s' (IsSound-Step rules s (Answer n status informed bytes) mid sound (inr h))
      (ArePlaced-Step rules s (Answer n status informed bytes) mid sound.0 placed (inr h)) seen.1 rest (All-tail IsOfService (Answer n status informed bytes) labels serving) in
      record {
        events = Seen (Answer n status informed bytes) ∷ next.events;
        in_turn = (seen.0, next.in_turn);
        seen = ap (λ xs. Answer n status informed bytes ∷ xs) next.seen;
        idle = λ v k r some at. elim some [
          | inl here ↦ idle_here past next.events s n status informed bytes mid m next.in_turn v k r here at
          | inr later ↦ idle_later v (Seen (Answer n status informed bytes)) past next.events (next.idle v k r later at)
        ];
      }
  leads (Cancel n ∷ labels) past s s' sound placed m (mid, inl (free, h), rest) serving =
      let next = leads labels past mid s' (IsSound-Step rules s (Cancel n) mid sound (inl (free, h))) (ArePlaced-Step rules s (Cancel n) mid sound.0 placed (inl (free, h)))
      (Mirrors-Cancels rules p i start past s n mid free m h) rest (All-tail IsOfService (Cancel n) labels serving) in
      record { events = next.events; in_turn = next.in_turn; seen = next.seen; idle = λ v k r some at. elim some [ inl here ↦ absurd (cc (here.is_answer)) | inr later ↦ next.idle v k r later at ] }
  leads (Cancel n ∷ labels) past s s' sound placed m (mid, inr none, rest) serving = absurd none
  leads (Device (Start n tag block) ∷ labels) past s s' sound placed m (mid, inl (free, h), rest) serving =
      let next = leads labels past mid s' (IsSound-Step rules s (Device (Start n tag block)) mid sound (inl (free, h))) (ArePlaced-Step rules s (Device (Start n tag block)) mid sound.0 placed (inl (free, h)))
      (Mirrors-Starts rules p i start past s n tag block mid sound.0 free m h) rest (All-tail IsOfService (Device (Start n tag block)) labels serving) in
      record { events = next.events; in_turn = next.in_turn; seen = next.seen; idle = λ v k r some at. elim some [ inl here ↦ absurd (cc (here.is_answer)) | inr later ↦ next.idle v k r later at ] }
  leads (Device (Fault n) ∷ labels) past s s' sound placed m (mid, inl (free, h), rest) serving =
      let next = leads labels past mid s' (IsSound-Step rules s (Device (Fault n)) mid sound (inl (free, h))) (ArePlaced-Step rules s (Device (Fault n)) mid sound.0 placed (inl (free, h)))
      (Mirrors-Faults rules p i start past s n mid m h) rest (All-tail IsOfService (Device (Fault n)) labels serving) in
      record { events = next.events; in_turn = next.in_turn; seen = next.seen; idle = λ v k r some at. elim some [ inl here ↦ absurd (cc (here.is_answer)) | inr later ↦ next.idle v k r later at ] }
  leads (Device (Return n class) ∷ labels) past s s' sound placed m (mid, inl (free, h), rest) serving =
      let next = leads labels past mid s' (IsSound-Step rules s (Device (Return n class)) mid sound (inl (free, h))) (ArePlaced-Step rules s (Device (Return n class)) mid sound.0 placed (inl (free, h)))
      (Mirrors-Returns rules p i start past s n class mid sound free m h) rest (All-tail IsOfService (Device (Return n class)) labels serving) in
      record { events = next.events; in_turn = next.in_turn; seen = next.seen; idle = λ v k r some at. elim some [ inl here ↦ absurd (cc (here.is_answer)) | inr later ↦ next.idle v k r later at ] }
  leads (Device (Act n bytes) ∷ labels) past s s' sound placed m (mid, inl (free, h), rest) serving =
      elim (Mirrors-Acts rules p i start past s n bytes mid sound placed faithful free m h) [
        | inl same ↦
            let next = leads labels past mid s' (IsSound-Step rules s (Device (Act n bytes)) mid sound (inl (free, h))) (ArePlaced-Step rules s (Device (Act n bytes)) mid sound.0 placed (inl (free, h)))
            same rest (All-tail IsOfService (Device (Act n bytes)) labels serving) in
            record { events = next.events; in_turn = next.in_turn; seen = next.seen; idle = λ v k r some at. elim some [ inl here ↦ absurd (cc (here.is_answer)) | inr later ↦ next.idle v k r later at ] }
        | inr (number, sector, may, after) ↦
            let next = leads labels (Effect number sector ∷ past) mid s' (IsSound-Step rules s (Device (Act n bytes)) mid sound (inl (free, h))) (ArePlaced-Step rules s (Device (Act n bytes)) mid sound.0 placed (inl (free, h)))
            after rest (All-tail IsOfService (Device (Act n bytes)) labels serving) in
            record {
              events = Effect number sector ∷ next.events;
              in_turn = (may, next.in_turn);
              seen = next.seen;
              idle = λ v k r some at. elim some [ inl here ↦ absurd (cc (here.is_answer)) | inr later ↦ idle_later v (Effect number sector) past next.events (next.idle v k r later at) ];
            }
      ]
  leads (Device label ∷ labels) past s s' sound placed m (mid, inr none, rest) serving = absurd none
  leads (Pause ∷ labels) past s s' sound placed m run serving = absurd (All-head IsOfService Pause labels serving)
  leads (Resume ∷ labels) past s s' sound placed m run serving = absurd (All-head IsOfService Resume labels serving)
  leads (Remove ∷ labels) past s s' sound placed m run serving = absurd (All-head IsOfService Remove labels serving)
  leads (Surprise ∷ labels) past s s' sound placed m run serving = absurd (All-head IsOfService Surprise labels serving)
  leads (Removed ∷ labels) past s s' sound placed m run serving = absurd (All-head IsOfService Removed labels serving)

  mirrors_opening : (arrays : List (List (List ℕ))) → slice_get (array_at arrays p) i ≡ Some start → Mirrors rules p i start [] (opening arrays)
  mirrors_opening arrays there = record {
    given = All-nil (IsBelow 1);
    value = there;
    requests = All-nil (IsMirrored rules p i []);
    pieces = All-nil (IsFollowed rules p i [] []);
    owed = tt;
  }

-- THE PLACE

-- the lowest place not done came back busy, where that is the status
pub busy_place : (rules : Rules) (s : State) (o : OpenRequest) (marks : List Mark) → s.removing ≡ false → All (IsEarned o) marks → HasCause rules s o marks DeviceBusy → list_all is_done marks ≡ false
    → (k : ℕ) × (k < length marks) × (get_or marks k Untouched ≡ Back)
busy_place rules s o [] staying earned cause none = absurd (cc (none))
busy_place rules s o (Done sector ∷ marks) staying earned cause none =
    let rest : (k : ℕ) × (k < length marks) × (get_or marks k Untouched ≡ Back) = busy_place rules s o marks staying (All-tail (IsEarned o) (Done sector) marks earned) cause none in
    (suc rest.0, let low = rest.1 in omega arith, rest.2)
busy_place rules s o (Back ∷ marks) staying earned cause none = (0, omega arith, refl)
busy_place rules s o (Failed failure ∷ marks) staying earned cause none =
    let own : (failure ≢ Success) × (failure ≢ DeviceBusy) = All-head (IsEarned o) (Failed failure) marks earned in absurd (own.1 (sym cause))
busy_place rules s o (Untouched ∷ marks) staying earned (inl h) none = absurd (cc (h.1))
busy_place rules s o (Untouched ∷ marks) staying earned (inr h) none = let removing : s.removing ≡ true = h.0 in absurd (cc (staying, removing))
busy_place rules s o (Out ∷ marks) staying earned cause none = absurd cause

owed_is : {a b : Owed} → Some a ≡ Some b → a ≡ b
owed_is e = cc (e)

none_owed : (x : Option Owed) → IsNone x → (o : Owed) → x ≡ Some o → ⊥
none_owed None free o e = cc (e)
none_owed (Some y) free o e = cc (free)

-- a call is refused with no DEVICE_BUSY where nothing limits what is open
refused_not_busy : (unknown removing unbound empty : Bool) (status : NtStatus) → removing ≡ false
    → first_some (when unknown InvalidHandle ∷ when removing DeletePending ∷ when unbound InvalidParameter ∷ when empty Success ∷ None ∷ []) ≡ Some status → status ≢ DeviceBusy
refused_not_busy true removing unbound empty status staying e = let same : InvalidHandle ≡ status = cc (e) in λ busy. cc (same, busy)
refused_not_busy false true unbound empty status staying e = cc (staying)
refused_not_busy false false true empty status staying e = let same : InvalidParameter ≡ status = cc (e) in λ busy. cc (same, busy)
refused_not_busy false false false true status staying e = let same : Success ≡ status = cc (e) in λ busy. cc (same, busy)
refused_not_busy false false false false status staying e = cc (e)

in_front : (y : Label) (xs : List Label) (x : Label) → Contains (y ∷ xs) x → (y ≡ x) ⊎ Contains xs x
in_front y xs x (zero, low, is) = inl is
in_front y xs x (suc k, low, is) = inr (k, omega arith, is)

-- CALLS ARE OF ONE NUMBER

lowest : (labels : List Label) (first n : ℕ) (q : ClientRequest) → AreFrom first (call_numbers labels) → Contains labels (Call n q) → first ≤ n
lowest [] first n q from (k, low, is) = absurd (omega arith)
lowest (Call m r ∷ labels) first n q from there = elim (in_front (Call m r) labels (Call n q) there) [
  | inl e ↦ let same : m ≡ n = cc (e) in let own : m ≡ first = from.0 in omega arith
  | inr later ↦ let more : first + 1 ≤ n = lowest labels (first + 1) n q from.1 later in omega arith
]
lowest (label ∷ labels) first n q from there = elim (in_front label labels (Call n q) there) [ inl e ↦ absurd (cc (e)) | inr later ↦ lowest labels first n q from later ]

one_call : (labels : List Label) (first n : ℕ) (q r : ClientRequest) → AreFrom first (call_numbers labels) → Contains labels (Call n q) → Contains labels (Call n r) → q ≡ r
one_call [] first n q r from (k, low, is) b = absurd (omega arith)
one_call (Call m s ∷ labels) first n q r from a b = elim (in_front (Call m s) labels (Call n q) a) [
  | inl e ↦ elim (in_front (Call m s) labels (Call n r) b) [
    | inl f ↦ cc (e, f)
    | inr later ↦ let same : m ≡ n = cc (e) in absurd (not_again n r same later)
  ]
  | inr later ↦ elim (in_front (Call m s) labels (Call n r) b) [
    | inl f ↦ let same : m ≡ n = cc (f) in absurd (not_again n q same later)
    | inr later' ↦ one_call labels (first + 1) n q r from.1 later later'
  ]
]
  where
    not_again : (n : ℕ) (t : ClientRequest) → m ≡ n → Contains labels (Call n t) → ⊥
    not_again n t same later = let own : m ≡ first = from.0 in let more : first + 1 ≤ n = lowest labels (first + 1) n t from.1 later in absurd (omega arith)
one_call (label ∷ labels) first n q r from a b = elim (in_front label labels (Call n q) a) [
  | inl e ↦ absurd (cc (e))
  | inr later ↦ elim (in_front label labels (Call n r) b) [ inl f ↦ absurd (cc (f)) | inr later' ↦ one_call labels first n q r from later later' ]
]

history_part : (labels : List Label) (x : Label) → Contains (history_of labels) x → Contains labels x
history_part [] x there = there
history_part (Call n q ∷ labels) x there = elim (in_front (Call n q) (history_of labels) x there) [
  | inl e ↦ subst (Contains (Call n q ∷ labels)) e (newest (Call n q) labels)
  | inr later ↦ further (Call n q) labels x (history_part labels x later)
]
history_part (Answer n status informed bytes ∷ labels) x there = elim (in_front (Answer n status informed bytes) (history_of labels) x there) [
  | inl e ↦ subst (Contains (Answer n status informed bytes ∷ labels)) e (newest (Answer n status informed bytes) labels)
  | inr later ↦ further (Answer n status informed bytes) labels x (history_part labels x later)
]
history_part (label ∷ labels) x there = further label labels x (history_part labels x there)

-- ALONG THE RUN

module _ (service : Rules) (depth max_transfer : ℕ) (window : Option ℕ) (whole : List Label) where
  abbrev rules : Rules
  rules = of_service service depth max_transfer window

  record Fine (s : State) : Type 0 where
    sound : IsSound rules s
    earned : HaveEarned s
    staying : s.removing ≡ false
    owed : (o : Owed) → s.owed ≡ Some o → o.status ≢ DeviceBusy
    called : All (Brings (λ n q. Contains whole (Call n q))) s.requests

  stays : (s : State) (label : Label) (mid : State) → IsOfService label → Step rules s label mid → s.removing ≡ false → mid.removing ≡ false
  stays s (Call n q) mid serving (inl (free, h)) staying = by (refusal rules s q) h.admits
    where
      by : (answer : Option NtStatus) → Admits rules s n q answer mid → mid.removing ≡ false
      by None a = a.after.removing ∙ staying
      by (Some status) a = a.after.removing ∙ staying
  stays s (Device (Start n tag block)) mid serving (inl (free, h)) staying = h.after.removing ∙ staying
  stays s (Device (Act n bytes)) mid serving (inl (free, h)) staying = h.after.removing ∙ staying
  stays s (Device (Fault n)) mid serving (inl (free, h)) staying = h.after.removing ∙ staying
  stays s (Device (Return n class)) mid serving (inl (free, h)) staying = h.after.removing ∙ staying
  stays s (Answer n status informed bytes) mid serving (inl (free, h)) staying = h.answers.after.removing ∙ staying
  stays s (Answer n status informed bytes) mid serving (inr h) staying = h.after.removing ∙ staying
  stays s (Cancel n) mid serving (inl (free, h)) staying = h.after.removing ∙ staying
  stays s Pause mid serving step staying = absurd serving
  stays s Resume mid serving step staying = absurd serving
  stays s Remove mid serving step staying = absurd serving
  stays s Surprise mid serving step staying = absurd serving
  stays s Removed mid serving step staying = absurd serving
  stays s (Call n q) mid serving (inr none) staying = absurd none
  stays s (Device label) mid serving (inr none) staying = absurd none
  stays s (Cancel n) mid serving (inr none) staying = absurd none

  owes : (s : State) (label : Label) (mid : State) → IsOfService label → Step rules s label mid → s.removing ≡ false → (o : Owed) → mid.owed ≡ Some o → o.status ≢ DeviceBusy
  owes s (Call n q) mid serving (inl (free, h)) staying o e = by (refusal rules s q) refl h.admits
    where
      status_is : (status : NtStatus) → Some (record { number = n; status = status }) ≡ Some o → status ≡ o.status
      status_is status f = ap (λ y. y.status) (owed_is f)

      by : (answer : Option NtStatus) → refusal rules s q ≡ answer → Admits rules s n q answer mid → o.status ≢ DeviceBusy
      by None is a = absurd (none_owed s.owed free o (sym a.after.owed ∙ e))
      by (Some status) is a =
          let same : status ≡ o.status = status_is status (sym a.after.owed ∙ e) in
          subst (λ x. x ≢ DeviceBusy) same (refused_not_busy _ s.removing _ _ status staying is)
  owes s (Device (Start n tag block)) mid serving (inl (free, h)) staying o e = absurd (none_owed s.owed free o (sym h.after.owed ∙ e))
  owes s (Device (Act n bytes)) mid serving (inl (free, h)) staying o e = absurd (none_owed s.owed free o (sym h.after.owed ∙ e))
  owes s (Device (Fault n)) mid serving (inl (free, h)) staying o e = absurd (none_owed s.owed free o (sym h.after.owed ∙ e))
  owes s (Device (Return n class)) mid serving (inl (free, h)) staying o e = absurd (none_owed s.owed free o (sym h.after.owed ∙ e))
  owes s (Answer n status informed bytes) mid serving (inl (free, h)) staying o e = absurd (none_owed s.owed free o (sym h.answers.after.owed ∙ e))
  owes s (Answer n status informed bytes) mid serving (inr h) staying o e = let none : None ≡ Some o = sym h.after.owed ∙ e in absurd (cc (none))
  owes s (Cancel n) mid serving (inl (free, h)) staying o e = absurd (none_owed s.owed free o (sym h.after.owed ∙ e))
  owes s Pause mid serving step staying o e = absurd serving
  owes s Resume mid serving step staying o e = absurd serving
  owes s Remove mid serving step staying o e = absurd serving
  owes s Surprise mid serving step staying o e = absurd serving
  owes s Removed mid serving step staying o e = absurd serving
  owes s (Call n q) mid serving (inr none) staying o e = absurd none
  owes s (Device label) mid serving (inr none) staying o e = absurd none
  owes s (Cancel n) mid serving (inr none) staying o e = absurd none

  fine_step : (s : State) (label : Label) (mid : State) → IsOfService label → Contains whole label → Fine s → Step rules s label mid → Fine mid
  fine_step s label mid serving there f step = record {
    sound = IsSound-Step rules s label mid f.sound step;
    earned = HaveEarned-Step rules s label mid f.earned step;
    staying = stays s label mid serving step f.staying;
    owed = owes s label mid serving step f.staying;
    called = brings_step (λ n q. Contains whole (Call n q)) rules s label mid (λ n q e refused. subst (Contains whole) e there) f.called step;
  }

  module _ (n informed : ℕ) (bytes : List ℕ) where
    record Found (s : State) (labels : List Label) (s' : State) (run : Run rules s labels s') : Type 0 where
      k : ℕ
      q : ClientRequest
      called : Contains whole (Call n q)
      inside : k < place_count service q
      left : Sometime (IsLeftBy n k q) rules s labels s' run

    record FoundHere (s : State) (label : Label) (mid : State) : Type 0 where
      k : ℕ
      q : ClientRequest
      called : Contains whole (Call n q)
      inside : k < place_count service q
      left : IsLeftBy n k q s label mid

    here : (s : State) (label : Label) (mid : State) → label ≡ Answer n DeviceBusy informed bytes → Step rules s label mid → Fine s → FoundHere s label mid
    here s label mid e step f = by_step (subst (λ l. Step rules s l mid) e step)
      where
        by_step : Step rules s (Answer n DeviceBusy informed bytes) mid → FoundHere s label mid
        by_step (inr h) = absurd (f.owed (record { number = n; status = DeviceBusy }) h.is_owed refl)
        by_step (inl (free, h)) = at (busy_place rules s h.answers.request h.answers.request.marks f.staying earned h.answers.cause none)
          where
            earned : HasEarned h.answers.request
            earned = All-head HasEarned h.answers.request h.answers.others (All-permutation HasEarned _ _ h.answers.is_open f.earned)

            sized : IsSized rules h.answers.request
            sized = All-head (IsSized rules) h.answers.request h.answers.others (All-permutation (IsSized rules) _ _ h.answers.is_open f.sound.1.sized)

            was_called : Contains whole (Call h.answers.request.number h.answers.request.request)
            was_called =
                All-head (Brings (λ m r. Contains whole (Call m r))) h.answers.request h.answers.others (All-permutation (Brings (λ m r. Contains whole (Call m r))) _ _ h.answers.is_open f.called)

            none : list_all is_done h.answers.request.marks ≡ false
            none = by (list_all is_done h.answers.request.marks) refl
              where
                by : (b : Bool) → list_all is_done h.answers.request.marks ≡ b → list_all is_done h.answers.request.marks ≡ false
                by false is = is
                by true is = let success : DeviceBusy ≡ Success = h.answers.success.1 is in absurd (cc (success))

            at : (k : ℕ) × (k < length h.answers.request.marks) × (get_or h.answers.request.marks k Untouched ≡ Back) → FoundHere s label mid
            at (k, low, back) = record {
              k = k;
              q = h.answers.request.request;
              called = subst (λ m. Contains whole (Call m h.answers.request.request)) h.answers.is_number was_called;
              inside = rw (← sized.places) low;
              left = record {
                informed = informed;
                bytes = bytes;
                is_answer = e;
                request = h.answers.request;
                is_open = Contains-permutation _ _ h.answers.request (IsPermutation-sym _ _ h.answers.is_open) (newest h.answers.request h.answers.others);
                is_number = h.answers.is_number;
                is_request = refl;
                inside = low;
                is_back = back;
              };
            }

    find : (labels : List Label) (s s' : State) (run : Run rules s labels s') → Fine s → All IsOfService labels → ((label : Label) → Contains labels label → Contains whole label)
        → Contains labels (Answer n DeviceBusy informed bytes) → Found s labels s' run
    find [] s s' run f serving part (k, low, is) = absurd (omega arith)
    find (label ∷ labels) s s' (mid, step, rest) f serving part there = elim (in_front label labels (Answer n DeviceBusy informed bytes) there) [
      | inl e ↦ let found = here s label mid e step f in record { k = found.k; q = found.q; called = found.called; inside = found.inside; left = inl found.left }
      | inr later ↦
          let found = find labels mid s' rest (fine_step s label mid (All-head IsOfService label labels serving) (part label (newest label labels)) f step) (All-tail IsOfService label labels serving)
          (λ other has. part other (further label labels other has)) later in
          record { k = found.k; q = found.q; called = found.called; inside = found.inside; left = inr found.left }
    ]

  -- A SCHEDULE KNOWS SIZES AND PARTITIONS ALONE

  module _ (p i : ℕ) (start : List ℕ) where
    at_alone : (q : ClientRequest) (place : ℕ) → IsAt rules p i q place → IsAt service p i q place
    at_alone q place at = record { partition = at.partition; transfer = at.transfer; in_bounds = at.in_bounds; sector = at.sector; inside = at.inside }

    at_served : (q : ClientRequest) (place : ℕ) → IsAt service p i q place → IsAt rules p i q place
    at_served q place at = record { partition = at.partition; transfer = at.transfer; in_bounds = at.in_bounds; sector = at.sector; inside = at.inside }

    sizes_alone : (past events : List Event) → MayFollow rules p i start past events → MayFollow service p i start past events
    sizes_alone past [] h = tt
    sizes_alone past (Effect number sector ∷ events) (h, more) =
        (record { request = h.request; place = h.place; is_open = h.is_open; there = at_alone h.request h.place h.there; once = h.once; moves = h.moves }, sizes_alone (Effect number sector ∷ past) events more)
    sizes_alone past (Seen (Answer number status informed bytes) ∷ events) (h, more) = (
      record {
        request = h.request;
        is_open = h.is_open;
        effect = λ e place at. let took : TookEffect rules past number h.request place bytes = h.effect e place (at_served h.request place at) in
            record { sector = took.sector; before = took.before; hands_over = took.hands_over };
      },
      sizes_alone (Seen (Answer number status informed bytes) ∷ past) events more,
    )
    sizes_alone past (Seen (Call number q) ∷ events) (h, more) = (tt, sizes_alone (Seen (Call number q) ∷ past) events more)
    sizes_alone past (Seen (Device label) ∷ events) (h, more) = (tt, sizes_alone (Seen (Device label) ∷ past) events more)
    sizes_alone past (Seen (Cancel number) ∷ events) (h, more) = (tt, sizes_alone (Seen (Cancel number) ∷ past) events more)
    sizes_alone past (Seen Pause ∷ events) (h, more) = (tt, sizes_alone (Seen Pause ∷ past) events more)
    sizes_alone past (Seen Resume ∷ events) (h, more) = (tt, sizes_alone (Seen Resume ∷ past) events more)
    sizes_alone past (Seen Remove ∷ events) (h, more) = (tt, sizes_alone (Seen Remove ∷ past) events more)
    sizes_alone past (Seen Surprise ∷ events) (h, more) = (tt, sizes_alone (Seen Surprise ∷ past) events more)
    sizes_alone past (Seen Removed ∷ events) (h, more) = (tt, sizes_alone (Seen Removed ∷ past) events more)

-- FOR EACH EXPLAINED HISTORY

module _ (service : Rules) (arrays : List (List (List ℕ))) (history : List Label) (whole : AreWhole service arrays) (h : IsExplained service arrays history) where
  abbrev served_rules : Rules
  served_rules = of_service service h.depth h.max_transfer h.window

  lead : (p i : ℕ) (start : List ℕ) → slice_get (array_at arrays p) i ≡ Some start → Leads served_rules p i start refl [] (opening arrays) h.labels h.last h.run
  lead p i start there =
      leads served_rules p i start refl h.labels [] (opening arrays) h.last (IsSound-opening served_rules arrays whole) (ArePlaced-opening arrays) (mirrors_opening served_rules p i start refl arrays there) h.run h.of_service

  abbrev scheduled : AreScheduled service arrays history
  scheduled p i start there = record {
    events = (lead p i start there).events;
    in_turn = sizes_alone service h.depth h.max_transfer h.window h.labels p i start [] (lead p i start there).events (lead p i start there).in_turn;
    seen = (lead p i start there).seen ∙ h.seen;
  }

  leave_places : BusyLeavePlaces service arrays history scheduled
  leave_places n q busy =
      let found = find service h.depth h.max_transfer h.window h.labels n busy.informed busy.bytes h.labels (opening arrays) h.last h.run fine h.of_service (λ label there. there)
      (history_part h.labels (Answer n DeviceBusy busy.informed busy.bytes) (subst (λ ls. Contains ls (Answer n DeviceBusy busy.informed busy.bytes)) (sym h.seen) busy.answered)) in
      let same : found.q ≡ q =
      one_call h.labels 1 n found.q q (calls_rise served_rules (opening arrays) h.labels h.last h.run) found.called
      (history_part h.labels (Call n q) (subst (λ ls. Contains ls (Call n q)) (sym h.seen) busy.called)) in
      record {
        place = found.k;
        inside = subst (λ r. found.k < place_count service r) same found.inside;
        idle = λ p i start there at.
            ((lead p i start there).idle n found.k found.q found.left (at_served service h.depth h.max_transfer h.window h.labels p i start found.q found.k (subst (λ r. IsAt service p i r found.k) (sym same) at))).1;
      }
    where
      fine : Fine service h.depth h.max_transfer h.window h.labels (opening arrays)
      fine = record {
        sound = IsSound-opening served_rules arrays whole;
        earned = HaveEarned-opening arrays;
        staying = refl;
        owed = λ o e. cc (e);
        called = All-nil (Brings (λ n q. Contains h.labels (Call n q)));
      }

pub explained_leaving : ExplainedLeavePlaces
explained_leaving rules arrays history whole h = (scheduled rules arrays history whole h, leave_places rules arrays history whole h)
