-- A run leads each sector along a schedule.
use Rattle.std.proofs.Common.{◌≡◌, inl, inr, ℕ, List, [], ◌∷◌, Option, Some, refl, sym, ◌∙◌, ap, subst}
use Rattle.std.specs.Prelude.{IsTrue, All, slice_get}
use Rattle.std.proofs.lemmas.List.Elements.{All-nil, All-head, All-tail}
use Rattle.srb.specs.declared.DeviceLabel.TheVariants.{Start, Act, Fault, Return}
use Rattle.machine.specs.declared.ClientRequest.{ClientRequest}
use Rattle.machine.specs.declared.Label.{Label}
use Rattle.machine.specs.declared.Label.TheVariants.{Call, Device, Answer, Cancel, Pause, Resume, Remove, Surprise, Removed}
use Rattle.machine.specs.Rules.{Rules}
use Rattle.machine.specs.State.{State, opening}
use Rattle.machine.specs.Sending.{array_at}
use Rattle.machine.specs.Pieces.{ArePlaced}
use Rattle.machine.specs.Step.{Run}
use Rattle.machine.proofs.Placed.{ArePlaced-opening, ArePlaced-Step}
use Rattle.machine_laws.specs.Reached.{AreWhole}
use Rattle.machine_laws.specs.NumberLaws.{AreFrom, call_numbers}
use Rattle.machine_laws.proofs.Awaiting.{calls_rise}
use Rattle.machine_laws.proofs.Sound.{IsSound, IsSound-Step, IsSound-opening}
use Rattle.history_laws.specs.History.{history_of, IsOfService, of_service}
use Rattle.history_laws.specs.Schedules.{Event, Seen, Effect, labels_of, IsAt, TookEffect, IsAnswer, MayFollow}
use Rattle.history_laws.specs.Laws.{ExplainedAreScheduled, ExplainedAreNumbered}
use Rattle.history_laws.proofs.Mirroring.{IsMirrored, IsFollowed, IsBelow, Mirrors}
use Rattle.history_laws.proofs.Sending.{Mirrors-Starts, Mirrors-Faults, Mirrors-Returns, Mirrors-Cancels}
use Rattle.history_laws.proofs.Calling.{Mirrors-Calls}
use Rattle.history_laws.proofs.Answering.{Mirrors-Answers, Mirrors-AnswersRefused}
use Rattle.history_laws.proofs.Acting.{Mirrors-Acts}

-- events that may follow those so far, and have this history
abbrev GoesOn : Rules → ℕ → ℕ → List ℕ → List Event → List Label → Type 0
GoesOn rules p i start past history = (events : List Event) × MayFollow rules p i start past events × (labels_of events ≡ history)

module _ (rules : Rules) (p i : ℕ) (start : List ℕ) (faithful : IsTrue rules.faithful) where
  goes_on : (labels : List Label) (past : List Event) (s s' : State) → IsSound rules s → ArePlaced s → Mirrors rules p i start past s → Run rules s labels s' → All IsOfService labels
      → GoesOn rules p i start past (history_of labels)
  goes_on [] past s s' sound placed m run serving = ([], tt, refl)
  goes_on (Call n q ∷ labels) past s s' sound placed m (mid, inl (free, h), rest) serving =
      let next : GoesOn rules p i start (Seen (Call n q) ∷ past) (history_of labels) =
      goes_on labels (Seen (Call n q) ∷ past) mid s' (IsSound-Step rules s (Call n q) mid sound (inl (free, h))) (ArePlaced-Step rules s (Call n q) mid sound.0 placed (inl (free, h)))
      (Mirrors-Calls rules p i start past s n q mid sound free m h) rest (All-tail IsOfService (Call n q) labels serving) in
      (Seen (Call n q) ∷ next.0, (tt, next.1), ap (λ xs. Call n q ∷ xs) next.2)
  goes_on (Call n q ∷ labels) past s s' sound placed m (mid, inr none, rest) serving = absurd none
  goes_on (Answer n status informed bytes ∷ labels) past s s' sound placed m (mid, inl (free, h), rest) serving =
      let seen : IsAnswer rules p i past n status bytes × Mirrors rules p i start (Seen (Answer n status informed bytes) ∷ past) mid =
      Mirrors-Answers rules p i start past s n status informed bytes mid sound free m h.answers in
      let next : GoesOn rules p i start (Seen (Answer n status informed bytes) ∷ past) (history_of labels) =
      goes_on labels (Seen (Answer n status informed bytes) ∷ past) mid s' (IsSound-Step rules s (Answer n status informed bytes) mid sound (inl (free, h)))
      (ArePlaced-Step rules s (Answer n status informed bytes) mid sound.0 placed (inl (free, h))) seen.1 rest (All-tail IsOfService (Answer n status informed bytes) labels serving) in
      (Seen (Answer n status informed bytes) ∷ next.0, (seen.0, next.1), ap (λ xs. Answer n status informed bytes ∷ xs) next.2)
  goes_on (Answer n status informed bytes ∷ labels) past s s' sound placed m (mid, inr h, rest) serving =
      let seen : IsAnswer rules p i past n status bytes × Mirrors rules p i start (Seen (Answer n status informed bytes) ∷ past) mid =
      Mirrors-AnswersRefused rules p i start past s n status informed bytes mid m h in
      let next : GoesOn rules p i start (Seen (Answer n status informed bytes) ∷ past) (history_of labels) =
      goes_on labels (Seen (Answer n status informed bytes) ∷ past) mid s' (IsSound-Step rules s (Answer n status informed bytes) mid sound (inr h))
      (ArePlaced-Step rules s (Answer n status informed bytes) mid sound.0 placed (inr h)) seen.1 rest (All-tail IsOfService (Answer n status informed bytes) labels serving) in
      (Seen (Answer n status informed bytes) ∷ next.0, (seen.0, next.1), ap (λ xs. Answer n status informed bytes ∷ xs) next.2)
  goes_on (Cancel n ∷ labels) past s s' sound placed m (mid, inl (free, h), rest) serving =
      goes_on labels past mid s' (IsSound-Step rules s (Cancel n) mid sound (inl (free, h))) (ArePlaced-Step rules s (Cancel n) mid sound.0 placed (inl (free, h)))
      (Mirrors-Cancels rules p i start past s n mid free m h) rest (All-tail IsOfService (Cancel n) labels serving)
  goes_on (Cancel n ∷ labels) past s s' sound placed m (mid, inr none, rest) serving = absurd none
  goes_on (Device (Start n tag block) ∷ labels) past s s' sound placed m (mid, inl (free, h), rest) serving =
      goes_on labels past mid s' (IsSound-Step rules s (Device (Start n tag block)) mid sound (inl (free, h))) (ArePlaced-Step rules s (Device (Start n tag block)) mid sound.0 placed (inl (free, h)))
      (Mirrors-Starts rules p i start past s n tag block mid sound.0 free m h) rest (All-tail IsOfService (Device (Start n tag block)) labels serving)
  goes_on (Device (Fault n) ∷ labels) past s s' sound placed m (mid, inl (free, h), rest) serving =
      goes_on labels past mid s' (IsSound-Step rules s (Device (Fault n)) mid sound (inl (free, h))) (ArePlaced-Step rules s (Device (Fault n)) mid sound.0 placed (inl (free, h)))
      (Mirrors-Faults rules p i start past s n mid m h) rest (All-tail IsOfService (Device (Fault n)) labels serving)
  goes_on (Device (Return n class) ∷ labels) past s s' sound placed m (mid, inl (free, h), rest) serving =
      goes_on labels past mid s' (IsSound-Step rules s (Device (Return n class)) mid sound (inl (free, h))) (ArePlaced-Step rules s (Device (Return n class)) mid sound.0 placed (inl (free, h)))
      (Mirrors-Returns rules p i start past s n class mid sound free m h) rest (All-tail IsOfService (Device (Return n class)) labels serving)
  goes_on (Device (Act n bytes) ∷ labels) past s s' sound placed m (mid, inl (free, h), rest) serving =
      elim (Mirrors-Acts rules p i start past s n bytes mid sound placed faithful free m h) [
        | inl same ↦ goes_on labels past mid s' (IsSound-Step rules s (Device (Act n bytes)) mid sound (inl (free, h))) (ArePlaced-Step rules s (Device (Act n bytes)) mid sound.0 placed (inl (free, h)))
            same rest (All-tail IsOfService (Device (Act n bytes)) labels serving)
        | inr (number, sector, may, after) ↦
            let next : GoesOn rules p i start (Effect number sector ∷ past) (history_of labels) =
            goes_on labels (Effect number sector ∷ past) mid s' (IsSound-Step rules s (Device (Act n bytes)) mid sound (inl (free, h))) (ArePlaced-Step rules s (Device (Act n bytes)) mid sound.0 placed (inl (free, h)))
            after rest (All-tail IsOfService (Device (Act n bytes)) labels serving) in
            (Effect number sector ∷ next.0, (may, next.1), next.2)
      ]
  goes_on (Device label ∷ labels) past s s' sound placed m (mid, inr none, rest) serving = absurd none
  goes_on (Pause ∷ labels) past s s' sound placed m run serving = absurd (All-head IsOfService Pause labels serving)
  goes_on (Resume ∷ labels) past s s' sound placed m run serving = absurd (All-head IsOfService Resume labels serving)
  goes_on (Remove ∷ labels) past s s' sound placed m run serving = absurd (All-head IsOfService Remove labels serving)
  goes_on (Surprise ∷ labels) past s s' sound placed m run serving = absurd (All-head IsOfService Surprise labels serving)
  goes_on (Removed ∷ labels) past s s' sound placed m run serving = absurd (All-head IsOfService Removed labels serving)

  Mirrors-opening : (arrays : List (List (List ℕ))) → slice_get (array_at arrays p) i ≡ Some start → Mirrors rules p i start [] (opening arrays)
  Mirrors-opening arrays there = record {
    given = All-nil (IsBelow 1);
    value = there;
    requests = All-nil (IsMirrored rules p i []);
    pieces = All-nil (IsFollowed rules p i [] []);
    owed = tt;
  }

  run_scheduled : (arrays : List (List (List ℕ))) (labels : List Label) (s' : State) → AreWhole rules arrays → Run rules (opening arrays) labels s' → All IsOfService labels → slice_get (array_at arrays p) i ≡ Some start
      → GoesOn rules p i start [] (history_of labels)
  run_scheduled arrays labels s' whole run serving there =
      goes_on labels [] (opening arrays) s' (IsSound-opening rules arrays whole) (ArePlaced-opening arrays) (Mirrors-opening arrays there) run serving

-- A SCHEDULE KNOWS SIZES AND PARTITIONS ALONE

module _ (rules : Rules) (depth max_transfer : ℕ) (window : Option ℕ) (p i : ℕ) (start : List ℕ) where
  at_alone : (q : ClientRequest) (place : ℕ) → IsAt (of_service rules depth max_transfer window) p i q place → IsAt rules p i q place
  at_alone q place at = record { partition = at.partition; transfer = at.transfer; in_bounds = at.in_bounds; sector = at.sector; inside = at.inside }

  at_served : (q : ClientRequest) (place : ℕ) → IsAt rules p i q place → IsAt (of_service rules depth max_transfer window) p i q place
  at_served q place at = record { partition = at.partition; transfer = at.transfer; in_bounds = at.in_bounds; sector = at.sector; inside = at.inside }

  sizes_alone : (past events : List Event) → MayFollow (of_service rules depth max_transfer window) p i start past events → MayFollow rules p i start past events
  sizes_alone past [] h = tt
  sizes_alone past (Effect number sector ∷ events) (h, more) =
      (record { request = h.request; place = h.place; is_open = h.is_open; there = at_alone h.request h.place h.there; once = h.once; moves = h.moves }, sizes_alone (Effect number sector ∷ past) events more)
  sizes_alone past (Seen (Answer number status informed bytes) ∷ events) (h, more) = (
    record {
      request = h.request;
      is_open = h.is_open;
      effect = λ e place at. let took : TookEffect (of_service rules depth max_transfer window) past number h.request place bytes = h.effect e place (at_served h.request place at) in
          record { sector = took.sector; before = took.before; hands_over = took.hands_over };
    },
    sizes_alone (Seen (Answer number status informed bytes) ∷ past) events more,
  )
  sizes_alone past (Seen (Call number q) ∷ events) (h, more) = (tt, sizes_alone (Seen (Call number q) ∷ past) events more)
  sizes_alone past (Seen (Device label) ∷ events) (h, more) = (tt, sizes_alone (Seen (Device label) ∷ past) events more)
  sizes_alone past (Seen (Cancel number) ∷ events) (h, more) = (tt, sizes_alone (Seen (Cancel number) ∷ past) events more)
  sizes_alone past (Seen Pause ∷ events) (h, more) = (tt, sizes_alone (Seen Pause ∷ past) events more)
  sizes_alone past (Seen Resume ∷ events) (h, more) = (tt, sizes_alone (Seen Resume ∷ past) events more)
  sizes_alone past (Seen Remove ∷ events) (h, more) = (tt, sizes_alone (Seen Remove ∷ past) events more)
  sizes_alone past (Seen Surprise ∷ events) (h, more) = (tt, sizes_alone (Seen Surprise ∷ past) events more)
  sizes_alone past (Seen Removed ∷ events) (h, more) = (tt, sizes_alone (Seen Removed ∷ past) events more)

pub explained_scheduled : ExplainedAreScheduled
explained_scheduled rules arrays history whole h p i start there =
    let found : GoesOn (of_service rules h.depth h.max_transfer h.window) p i start [] (history_of h.labels) =
    run_scheduled (of_service rules h.depth h.max_transfer h.window) p i start refl arrays h.labels h.last whole h.run h.of_service there in
    record { events = found.0; in_turn = sizes_alone rules h.depth h.max_transfer h.window p i start [] found.0 found.1; seen = found.2 ∙ h.seen }

-- NUMBERS

same_calls : (labels : List Label) → call_numbers (history_of labels) ≡ call_numbers labels
same_calls [] = refl
same_calls (Call number q ∷ labels) = ap (λ xs. number ∷ xs) (same_calls labels)
same_calls (Answer number status informed bytes ∷ labels) = same_calls labels
same_calls (Device label ∷ labels) = same_calls labels
same_calls (Cancel number ∷ labels) = same_calls labels
same_calls (Pause ∷ labels) = same_calls labels
same_calls (Resume ∷ labels) = same_calls labels
same_calls (Remove ∷ labels) = same_calls labels
same_calls (Surprise ∷ labels) = same_calls labels
same_calls (Removed ∷ labels) = same_calls labels

pub explained_numbered : ExplainedAreNumbered
explained_numbered rules arrays history h =
    subst (AreFrom 1) (sym (same_calls h.labels) ∙ ap call_numbers h.seen) (calls_rise (of_service rules h.depth h.max_transfer h.window) (opening arrays) h.labels h.last h.run)
