-- What is known of open requests is kept, so each label of a run's history fits.
use Rattle.std.proofs.Common.{◌≡◌, inl, inr, ℕ, ◌-◌, true, List, [], ◌∷◌, Option, None, refl, subst}
use Rattle.std.specs.Prelude.{All}
use Rattle.std.proofs.lemmas.List.Elements.{All-head, All-tail}
use Rattle.ntstatus.specs.declared.NtStatus.{NtStatus}
use Rattle.machine.specs.declared.Label.{Label}
use Rattle.machine.specs.declared.Label.TheVariants.{Call, Device, Answer, Cancel, Pause, Resume, Remove, Surprise, Removed}
use Rattle.machine.specs.Rules.{Rules}
use Rattle.machine.specs.State.{State, opening}
use Rattle.machine.specs.Step.{Run}
use Rattle.machine_laws.proofs.Sound.{IsSound, IsSound-Step, IsSound-opening}
use Rattle.history_laws.specs.declared.Asked.{Asked}
use Rattle.history_laws.specs.History.{history_of, IsOfService, of_service}
use Rattle.history_laws.specs.Fitting.{all_fit, all_fit_at_first}
use Rattle.history_laws.specs.Laws.{ExplainedFit}
use Rattle.history_laws.proofs.Knowing.{Knows, knows_device, fits_call, fits_answered, knows_opening}

module _ (service : Rules) (depth max_transfer : ℕ) (window : Option ℕ) where
  abbrev rules : Rules
  rules = of_service service depth max_transfer window

  fit_run : (labels : List Label) (asked : List (Option Asked)) (owed : Option NtStatus) (s s' : State) → IsSound rules s → Knows rules asked owed s → Run rules s labels s' → All IsOfService labels
      → all_fit service asked owed (history_of labels) ≡ true
  fit_run [] asked owed s s' sound k run serving = refl
  fit_run (Call n q ∷ labels) asked owed s s' sound k (mid, inl (free, h), rest) serving =
      let made = fits_call service depth max_transfer window true asked owed s n q mid sound free k h in
      rw made.0 (fit_run labels _ _ mid s' (IsSound-Step rules s (Call n q) mid sound (inl (free, h))) made.1 rest (All-tail IsOfService (Call n q) labels serving))
  fit_run (Call n q ∷ labels) asked owed s s' sound k (mid, inr none, rest) serving = absurd none
  fit_run (Answer n status informed bytes ∷ labels) asked owed s s' sound k (mid, step, rest) serving =
      let made = fits_answered service depth max_transfer window true asked owed s n status informed bytes mid sound k step in
      rw made.0 (fit_run labels _ _ mid s' (IsSound-Step rules s (Answer n status informed bytes) mid sound step) made.1 rest (All-tail IsOfService (Answer n status informed bytes) labels serving))
  fit_run (Device label ∷ labels) asked owed s s' sound k (mid, step, rest) serving =
      fit_run labels asked owed mid s' (IsSound-Step rules s (Device label) mid sound step) (knows_device rules asked owed s (Device label) mid sound tt refl k step) rest (All-tail IsOfService (Device label) labels serving)
  fit_run (Cancel n ∷ labels) asked owed s s' sound k (mid, step, rest) serving =
      fit_run labels asked owed mid s' (IsSound-Step rules s (Cancel n) mid sound step) (knows_device rules asked owed s (Cancel n) mid sound tt refl k step) rest (All-tail IsOfService (Cancel n) labels serving)
  fit_run (Pause ∷ labels) asked owed s s' sound k run serving = absurd (All-head IsOfService Pause labels serving)
  fit_run (Resume ∷ labels) asked owed s s' sound k run serving = absurd (All-head IsOfService Resume labels serving)
  fit_run (Remove ∷ labels) asked owed s s' sound k run serving = absurd (All-head IsOfService Remove labels serving)
  fit_run (Surprise ∷ labels) asked owed s s' sound k run serving = absurd (All-head IsOfService Surprise labels serving)
  fit_run (Removed ∷ labels) asked owed s s' sound k run serving = absurd (All-head IsOfService Removed labels serving)

pub explained_fits : ExplainedFit
explained_fits rules arrays history whole h =
    subst (λ labels. all_fit_at_first rules labels ≡ true) h.seen
    (fit_run rules h.depth h.max_transfer h.window h.labels (None ∷ []) None (opening arrays) h.last
    (IsSound-opening (of_service rules h.depth h.max_transfer h.window) arrays whole) (knows_opening rules h.depth h.max_transfer h.window true arrays) h.run h.of_service)
