-- A schedule holds where calls are seen earlier and answers later.
use Rattle.std.proofs.Common.{◌≡◌, ℕ, zero, suc, List, [], ◌∷◌, ◌++◌, refl, sym, ◌∙◌, ap, subst, arith}
use Rattle.std.specs.Prelude.{All, Contains}
use Rattle.std.proofs.lemmas.List.Elements.{All-head, All-tail, All-cons}
use Rattle.ntstatus.specs.declared.NtStatus.{NtStatus}
use Rattle.machine.specs.declared.ClientRequest.{ClientRequest}
use Rattle.machine.specs.declared.Label.{Label}
use Rattle.machine.specs.declared.Label.TheVariants.{Call, Device, Answer, Cancel, Pause, Resume, Remove, Surprise, Removed}
use Rattle.machine.specs.Rules.{Rules}
use Rattle.machine_laws.specs.NumberLaws.{IsNoAnswerOf}
use Rattle.history_laws.specs.Schedules.{Event, Seen, Effect, labels_of, value_after, IsNoAnswer, IsNoEffect, Moves, TookEffect, IsAnswer, May, MayFollow}
use Rattle.history_laws.specs.Widening.{CallsMoveUp, AnswersMoveDown}
use Rattle.history_laws.proofs.Mirroring.{further}

-- WHAT ALLOWS AS MUCH

-- the same calls and effects, and perhaps more calls and fewer answers
record IsWider (start : List ℕ) (past past' : List Event) : Type 0 where
  calls : (number : ℕ) (q : ClientRequest) → Contains past (Seen (Call number q)) → Contains past' (Seen (Call number q))
  effects : (number : ℕ) (sector : List ℕ) → Contains past (Effect number sector) → Contains past' (Effect number sector)
  awaits : (number : ℕ) → All (IsNoAnswer number) past → All (IsNoAnswer number) past'
  once : (number : ℕ) → All (IsNoEffect number) past → All (IsNoEffect number) past'
  value : value_after start past ≡ value_after start past'

contains_then : (e : Event) (past past' : List Event) (x : Event) → (Contains past x → Contains past' x) → Contains (e ∷ past) x → Contains (e ∷ past') x
contains_then e past past' x keeps (zero, low, is) = (0, omega arith, is)
contains_then e past past' x keeps (suc k, low, is) = further e past' x (keeps (k, omega arith, is))

contains_swapped : (a b : Event) (past : List Event) (x : Event) → Contains (a ∷ b ∷ past) x → Contains (b ∷ a ∷ past) x
contains_swapped a b past x (zero, low, is) = (1, omega arith, is)
contains_swapped a b past x (suc zero, low, is) = (0, omega arith, is)
contains_swapped a b past x (suc (suc k), low, is) = (suc (suc k), omega arith, is)

all_then : (P : Event → Type 0) (e : Event) (past past' : List Event) → (All P past → All P past') → All P (e ∷ past) → All P (e ∷ past')
all_then P e past past' keeps all = All-cons P e past' (All-head P e past all) (keeps (All-tail P e past all))

all_swapped : (P : Event → Type 0) (a b : Event) (past : List Event) → All P (a ∷ b ∷ past) → All P (b ∷ a ∷ past)
all_swapped P a b past all =
    let rest : All P (b ∷ past) = All-tail P a (b ∷ past) all in
    All-cons P b (a ∷ past) (All-head P b past rest) (All-cons P a past (All-head P a (b ∷ past) all) (All-tail P b past rest))

module _ (start : List ℕ) where
  value_then : (e : Event) (past past' : List Event) → value_after start past ≡ value_after start past' → value_after start (e ∷ past) ≡ value_after start (e ∷ past')
  value_then (Seen label) past past' same = same
  value_then (Effect number sector) past past' same = refl

  value_swapped : (label : Label) (e : Event) (past : List Event) → value_after start (Seen label ∷ e ∷ past) ≡ value_after start (e ∷ Seen label ∷ past)
  value_swapped label (Seen other) past = refl
  value_swapped label (Effect number sector) past = refl

  IsWider-then : (e : Event) (past past' : List Event) → IsWider start past past' → IsWider start (e ∷ past) (e ∷ past')
  IsWider-then e past past' w = record {
    calls = λ number q. contains_then e past past' (Seen (Call number q)) (w.calls number q);
    effects = λ number sector. contains_then e past past' (Effect number sector) (w.effects number sector);
    awaits = λ number. all_then (IsNoAnswer number) e past past' (w.awaits number);
    once = λ number. all_then (IsNoEffect number) e past past' (w.once number);
    value = value_then e past past' w.value;
  }

  label_after : (label : Label) (e : Event) (past : List Event) → IsWider start (Seen label ∷ e ∷ past) (e ∷ Seen label ∷ past)
  label_after label e past = record {
    calls = λ number q. contains_swapped (Seen label) e past (Seen (Call number q));
    effects = λ number sector. contains_swapped (Seen label) e past (Effect number sector);
    awaits = λ number. all_swapped (IsNoAnswer number) (Seen label) e past;
    once = λ number. all_swapped (IsNoEffect number) (Seen label) e past;
    value = value_swapped label e past;
  }

  label_before : (label : Label) (e : Event) (past : List Event) → IsWider start (e ∷ Seen label ∷ past) (Seen label ∷ e ∷ past)
  label_before label e past = record {
    calls = λ number q. contains_swapped e (Seen label) past (Seen (Call number q));
    effects = λ number sector. contains_swapped e (Seen label) past (Effect number sector);
    awaits = λ number. all_swapped (IsNoAnswer number) e (Seen label) past;
    once = λ number. all_swapped (IsNoEffect number) e (Seen label) past;
    value = sym (value_swapped label e past);
  }

  one_call_more : (number : ℕ) (q : ClientRequest) (past : List Event) → IsWider start past (Seen (Call number q) ∷ past)
  one_call_more number q past = record {
    calls = λ n r. further (Seen (Call number q)) past (Seen (Call n r));
    effects = λ n sector. further (Seen (Call number q)) past (Effect n sector);
    awaits = λ n all. All-cons (IsNoAnswer n) (Seen (Call number q)) past tt all;
    once = λ n all. All-cons (IsNoEffect n) (Seen (Call number q)) past tt all;
    value = refl;
  }

  one_answer_less : (number : ℕ) (status : NtStatus) (informed : ℕ) (bytes : List ℕ) (past : List Event) → IsWider start (Seen (Answer number status informed bytes) ∷ past) past
  one_answer_less number status informed bytes past = record {
    calls = λ n r there. not_first (Seen (Call n r)) (λ e. cc (e)) there;
    effects = λ n sector there. not_first (Effect n sector) (λ e. cc (e)) there;
    awaits = λ n all. All-tail (IsNoAnswer n) (Seen (Answer number status informed bytes)) past all;
    once = λ n all. All-tail (IsNoEffect n) (Seen (Answer number status informed bytes)) past all;
    value = refl;
  }
    where
      not_first : (x : Event) → (Seen (Answer number status informed bytes) ≡ x → ⊥) → Contains (Seen (Answer number status informed bytes) ∷ past) x → Contains past x
      not_first x other (zero, low, is) = absurd (other is)
      not_first x other (suc k, low, is) = (k, omega arith, is)

module _ (rules : Rules) (p i : ℕ) (start : List ℕ) where
  -- an answer may come as late
  answer_wider : (past past' : List Event) (number : ℕ) (status : NtStatus) (bytes : List ℕ) → IsWider start past past' → IsAnswer rules p i past number status bytes → IsAnswer rules p i past' number status bytes
  answer_wider past past' number status bytes w h = record {
    request = h.request;
    is_open = record { called = w.calls number h.request h.is_open.called; awaits = w.awaits number h.is_open.awaits };
    effect = λ e place at.
        let took : TookEffect rules past number h.request place bytes = h.effect e place at in
        record { sector = took.sector; before = w.effects number took.sector took.before; hands_over = took.hands_over };
  }

  May-wider : (past past' : List Event) (e : Event) → IsWider start past past' → May rules p i start past e → May rules p i start past' e
  May-wider past past' (Effect number sector) w h = record {
    request = h.request;
    place = h.place;
    is_open = record { called = w.calls number h.request h.is_open.called; awaits = w.awaits number h.is_open.awaits };
    there = h.there;
    once = w.once number h.once;
    moves = subst (λ value. Moves rules value h.request h.place h.request.kind sector) w.value h.moves;
  }
  May-wider past past' (Seen (Answer number status informed bytes)) w h = answer_wider past past' number status bytes w h
  May-wider past past' (Seen (Call number q)) w h = tt
  May-wider past past' (Seen (Device label)) w h = tt
  May-wider past past' (Seen (Cancel number)) w h = tt
  May-wider past past' (Seen Pause) w h = tt
  May-wider past past' (Seen Resume) w h = tt
  May-wider past past' (Seen Remove) w h = tt
  May-wider past past' (Seen Surprise) w h = tt
  May-wider past past' (Seen Removed) w h = tt

  MayFollow-wider : (events past past' : List Event) → IsWider start past past' → MayFollow rules p i start past events → MayFollow rules p i start past' events
  MayFollow-wider [] past past' w h = tt
  MayFollow-wider (e ∷ events) past past' w h = (May-wider past past' e w h.0, MayFollow-wider events (e ∷ past) (e ∷ past') (IsWider-then start e past past' w) h.1)

  -- events that may follow those so far, and have this history
  abbrev GoesOn : List Event → List Label → Type 0
  GoesOn past history = (events : List Event) × MayFollow rules p i start past events × (labels_of events ≡ history)

  -- what may be changed at the front may be changed behind other labels
  behind : (xs ys : List Label) → ((past events : List Event) → MayFollow rules p i start past events → labels_of events ≡ xs → GoesOn past ys)
      → (events : List Event) (before : List Label) (past : List Event) → MayFollow rules p i start past events → labels_of events ≡ before ++ xs → GoesOn past (before ++ ys)
  behind xs ys change events [] past h is = change past events h is
  behind xs ys change [] (b ∷ before) past h is = absurd (cc (is))
  behind xs ys change (Effect number sector ∷ events) (b ∷ before) past h is =
      let next : GoesOn (Effect number sector ∷ past) ((b ∷ before) ++ ys) = behind xs ys change events (b ∷ before) (Effect number sector ∷ past) h.1 is in
      (Effect number sector ∷ next.0, (h.0, next.1), next.2)
  behind xs ys change (Seen label ∷ events) (b ∷ before) past h is =
      let same : label ≡ b = cc (is) in
      let rest : labels_of events ≡ before ++ xs = cc (is) in
      let next : GoesOn (Seen label ∷ past) (before ++ ys) = behind xs ys change events before (Seen label ∷ past) h.1 rest in
      (Seen label ∷ next.0, (h.0, next.1), ap (λ zs. label ∷ zs) next.2 ∙ ap (λ l. l ∷ (before ++ ys)) same)

  -- A CALL MOVES UP

  -- the next call is taken out of the events, and put in front of them
  call_first : (number : ℕ) (q : ClientRequest) (after : List Label) (events past : List Event) → MayFollow rules p i start past events → labels_of events ≡ Call number q ∷ after
      → GoesOn (Seen (Call number q) ∷ past) after
  call_first number q after [] past h is = absurd (cc (is))
  call_first number q after (Effect n sector ∷ events) past h is =
      let next : GoesOn (Seen (Call number q) ∷ Effect n sector ∷ past) after = call_first number q after events (Effect n sector ∷ past) h.1 is in (
        Effect n sector ∷ next.0,
        (
          May-wider past (Seen (Call number q) ∷ past) (Effect n sector) (one_call_more start number q past) h.0,
          MayFollow-wider next.0 (Seen (Call number q) ∷ Effect n sector ∷ past) (Effect n sector ∷ Seen (Call number q) ∷ past) (label_after start (Call number q) (Effect n sector) past) next.1,
        ),
        next.2,
      )
  call_first number q after (Seen label ∷ events) past h is =
      let same : label ≡ Call number q = cc (is) in
      let rest : labels_of events ≡ after = cc (is) in
      (events, subst (λ l. MayFollow rules p i start (Seen l ∷ past) events) same h.1, rest)

  call_up : (label : Label) (number : ℕ) (q : ClientRequest) (after : List Label) (past events : List Event) → MayFollow rules p i start past events
      → labels_of events ≡ label ∷ Call number q ∷ after → GoesOn past (Call number q ∷ label ∷ after)
  call_up label number q after past [] h is = absurd (cc (is))
  call_up label number q after past (Effect n sector ∷ events) h is =
      let next : GoesOn (Effect n sector ∷ past) (Call number q ∷ label ∷ after) = call_up label number q after (Effect n sector ∷ past) events h.1 is in
      (Effect n sector ∷ next.0, (h.0, next.1), next.2)
  call_up label number q after past (Seen l ∷ events) h is =
      let same : l ≡ label = cc (is) in
      let rest : labels_of events ≡ Call number q ∷ after = cc (is) in
      let next : GoesOn (Seen (Call number q) ∷ Seen l ∷ past) after = call_first number q after events (Seen l ∷ past) h.1 rest in (
        Seen (Call number q) ∷ Seen l ∷ next.0,
        (
          tt,
          (
            May-wider past (Seen (Call number q) ∷ past) (Seen l) (one_call_more start number q past) h.0,
            MayFollow-wider next.0 (Seen (Call number q) ∷ Seen l ∷ past) (Seen l ∷ Seen (Call number q) ∷ past) (label_after start (Call number q) (Seen l) past) next.1,
          ),
        ),
        ap (λ xs. Call number q ∷ l ∷ xs) next.2 ∙ ap (λ x. Call number q ∷ x ∷ after) same,
      )

  -- AN ANSWER MOVES DOWN

  answer_later : (past : List Event) (e : Event) (number : ℕ) (status : NtStatus) (bytes : List ℕ) → IsNoAnswer number e → IsAnswer rules p i past number status bytes → IsAnswer rules p i (e ∷ past) number status bytes
  answer_later past e number status bytes other h = record {
    request = h.request;
    is_open = record { called = further e past _ h.is_open.called; awaits = All-cons (IsNoAnswer number) e past other h.is_open.awaits };
    effect = λ success place at.
        let took : TookEffect rules past number h.request place bytes = h.effect success place at in
        record { sector = took.sector; before = further e past _ took.before; hands_over = took.hands_over };
  }

  module _ (number : ℕ) (status : NtStatus) (informed : ℕ) (bytes : List ℕ) (label : Label) (other : IsNoAnswerOf number label) (after : List Label) where
    answer_behind : (events past : List Event) → IsAnswer rules p i past number status bytes → MayFollow rules p i start (Seen (Answer number status informed bytes) ∷ past) events
        → labels_of events ≡ label ∷ after → GoesOn past (label ∷ Answer number status informed bytes ∷ after)
    answer_behind [] past answer h is = absurd (cc (is))
    answer_behind (Effect n sector ∷ events) past answer h is =
        let swapped : MayFollow rules p i start (Seen (Answer number status informed bytes) ∷ Effect n sector ∷ past) events =
        MayFollow-wider events (Effect n sector ∷ Seen (Answer number status informed bytes) ∷ past) (Seen (Answer number status informed bytes) ∷ Effect n sector ∷ past)
        (label_before start (Answer number status informed bytes) (Effect n sector) past) h.1 in
        let next : GoesOn (Effect n sector ∷ past) (label ∷ Answer number status informed bytes ∷ after) =
        answer_behind events (Effect n sector ∷ past) (answer_later past (Effect n sector) number status bytes tt answer) swapped is in (
          Effect n sector ∷ next.0,
          (May-wider (Seen (Answer number status informed bytes) ∷ past) past (Effect n sector) (one_answer_less start number status informed bytes past) h.0, next.1),
          next.2,
        )
    answer_behind (Seen l ∷ events) past answer h is =
        let same : l ≡ label = cc (is) in
        let rest : labels_of events ≡ after = cc (is) in
        let swapped : MayFollow rules p i start (Seen (Answer number status informed bytes) ∷ Seen l ∷ past) events =
        MayFollow-wider events (Seen l ∷ Seen (Answer number status informed bytes) ∷ past) (Seen (Answer number status informed bytes) ∷ Seen l ∷ past)
        (label_before start (Answer number status informed bytes) (Seen l) past) h.1 in (
          Seen l ∷ Seen (Answer number status informed bytes) ∷ events,
          (
            May-wider (Seen (Answer number status informed bytes) ∷ past) past (Seen l) (one_answer_less start number status informed bytes past) h.0,
            (answer_later past (Seen l) number status bytes (subst (IsNoAnswerOf number) (sym same) other) answer, swapped),
          ),
          ap (λ xs. l ∷ Answer number status informed bytes ∷ xs) rest ∙ ap (λ x. x ∷ Answer number status informed bytes ∷ after) same,
        )

    answer_down : (past events : List Event) → MayFollow rules p i start past events → labels_of events ≡ Answer number status informed bytes ∷ label ∷ after
        → GoesOn past (label ∷ Answer number status informed bytes ∷ after)
    answer_down past [] h is = absurd (cc (is))
    answer_down past (Effect n sector ∷ events) h is =
        let next : GoesOn (Effect n sector ∷ past) (label ∷ Answer number status informed bytes ∷ after) = answer_down (Effect n sector ∷ past) events h.1 is in
        (Effect n sector ∷ next.0, (h.0, next.1), next.2)
    answer_down past (Seen l ∷ events) h is =
        let same : l ≡ Answer number status informed bytes = cc (is) in
        let rest : labels_of events ≡ label ∷ after = cc (is) in
        answer_behind events past (subst (λ x. May rules p i start past (Seen x)) same h.0) (subst (λ x. MayFollow rules p i start (Seen x ∷ past) events) same h.1) rest

pub calls_up : CallsMoveUp
calls_up rules p i start before label number q after h =
    let moved : GoesOn rules p i start [] (before ++ Call number q ∷ label ∷ after) =
    behind rules p i start (label ∷ Call number q ∷ after) (Call number q ∷ label ∷ after) (call_up rules p i start label number q after) h.events before [] h.in_turn h.seen in
    record { events = moved.0; in_turn = moved.1; seen = moved.2 }

pub answers_down : AnswersMoveDown
answers_down rules p i start before number status informed bytes label after other h =
    let moved : GoesOn rules p i start [] (before ++ label ∷ Answer number status informed bytes ∷ after) =
    behind rules p i start (Answer number status informed bytes ∷ label ∷ after) (label ∷ Answer number status informed bytes ∷ after)
    (answer_down rules p i start number status informed bytes label other after) h.events before [] h.in_turn h.seen in
    record { events = moved.0; in_turn = moved.1; seen = moved.2 }
