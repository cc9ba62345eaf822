-- What makes a history over sessions one that sessions explain.
use Rattle.std.specs.Prelude.{◌≡◌, ◌≢◌, ◌↔◌, ℕ, Bool, true, false, List, [], ◌∷◌, ◌++◌, Option, None, All, is_none, if◌then◌else◌}
use Rattle.ntstatus.specs.declared.NtStatus.{NtStatus}
use Rattle.ntstatus.specs.declared.NtStatus.TheVariants.{DeviceBusy}
use Rattle.machine.specs.declared.ClientRequest.{ClientRequest}
use Rattle.machine.specs.declared.Label.{Label}
use Rattle.machine.specs.declared.Label.TheVariants.{Call, Answer}
use Rattle.machine.specs.Rules.{Rules}
use Rattle.machine_laws.specs.NumberLaws.{IsNoAnswerOf}
use Rattle.machine_laws.specs.Reached.{AreWhole}
use Rattle.history_laws.specs.declared.Asked.{Asked}
use Rattle.history_laws.specs.Fitting.{asked_after, fits, owed_after}
use Rattle.history_runs.specs.Laws.{IsAddressable}
use Rattle.loss.specs.Sessions.{Line, Told, Lost, Ended}
use Rattle.history_loss.specs.Histories.{IsExplained, seen_of}
use Rattle.history_loss.specs.Schedules.{AreScheduled}

-- each label of a session may come behind those before it, whatever the sectors hold, and a refused call is answered before its session ends
abbrev pub all_fit_over : Rules → List (Option Asked) → Option NtStatus → List Line → Bool
all_fit_over rules asked owed [] = is_none owed
all_fit_over rules asked owed (Told label ∷ lines) =
    if fits rules asked owed label then all_fit_over rules (asked_after rules asked owed label) (owed_after rules owed label) lines else false
all_fit_over rules asked owed (Lost ∷ lines) = if is_none owed then all_fit_over rules (None ∷ []) None lines else false
all_fit_over rules asked owed (Ended ∷ lines) = if is_none owed then all_fit_over rules (None ∷ []) None lines else false

-- no answer DEVICE_BUSY
abbrev pub IsNotBusy : Line → Type 0
IsNotBusy (Told (Answer number status informed bytes)) = status ≢ DeviceBusy
IsNotBusy _ = Unit {0}

-- calls and answers, losses and ends, that fit behind each other, and none is answered DEVICE_BUSY
pub record Fits (rules : Rules) (history : List Line) : Type 0 where
  pub is_history : seen_of history ≡ history
  pub fit : all_fit_over rules (None ∷ []) None history ≡ true
  pub not_busy : All IsNotBusy history

-- such a history is explained exactly where its sectors have schedules that share the moments of failures
abbrev pub ScheduledAreExplained : Type 0
ScheduledAreExplained = (rules : Rules) (disk : ℕ → List ℕ) (arrays : List (List (List ℕ))) (history : List Line) → IsAddressable rules → AreWhole rules arrays
    → Fits rules history → AreScheduled rules disk history ↔ IsExplained rules disk history

-- an explained history stays one where a call is seen a label earlier, in its session, and the labels still fit
abbrev pub CallsMoveUp : Type 0
CallsMoveUp = (rules : Rules) (disk : ℕ → List ℕ) (arrays : List (List (List ℕ))) (before : List Line) (label : Label) (number : ℕ) (q : ClientRequest) (after : List Line)
    → IsAddressable rules → AreWhole rules arrays → Fits rules (before ++ Told (Call number q) ∷ Told label ∷ after)
    → IsExplained rules disk (before ++ Told label ∷ Told (Call number q) ∷ after) → IsExplained rules disk (before ++ Told (Call number q) ∷ Told label ∷ after)

-- and where an answer is seen a label later
abbrev pub AnswersMoveDown : Type 0
AnswersMoveDown = (rules : Rules) (disk : ℕ → List ℕ) (arrays : List (List (List ℕ))) (before : List Line) (number : ℕ) (status : NtStatus) (informed : ℕ) (bytes : List ℕ) (label : Label) (after : List Line)
    → IsAddressable rules → AreWhole rules arrays → IsNoAnswerOf number label → Fits rules (before ++ Told label ∷ Told (Answer number status informed bytes) ∷ after)
    → IsExplained rules disk (before ++ Told (Answer number status informed bytes) ∷ Told label ∷ after)
    → IsExplained rules disk (before ++ Told label ∷ Told (Answer number status informed bytes) ∷ after)
