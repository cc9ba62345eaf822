-- What sessions explain fits.
use Rattle.std.specs.Prelude.{◌≡◌, ℕ, Bool, true, false, List, [], ◌∷◌, Option, None, All, if◌then◌else◌}
use Rattle.ntstatus.specs.declared.NtStatus.{NtStatus}
use Rattle.machine.specs.Rules.{Rules}
use Rattle.history_laws.specs.declared.Asked.{Asked}
use Rattle.history_laws.specs.Fitting.{asked_after, fits, owed_after}
use Rattle.loss.specs.Sessions.{Line, Told, Lost, Ended}
use Rattle.history_loss.specs.Histories.{IsExplained}
use Rattle.history_loss_runs.specs.Laws.{Fits, IsNotBusy}

-- each label of a session may come behind those before it, whatever the sectors hold
abbrev pub labels_fit : Rules → List (Option Asked) → Option NtStatus → List Line → Bool
labels_fit rules asked owed [] = true
labels_fit rules asked owed (Told label ∷ lines) =
    if fits rules asked owed label then labels_fit rules (asked_after rules asked owed label) (owed_after rules owed label) lines else false
labels_fit rules asked owed (Lost ∷ lines) = labels_fit rules (None ∷ []) None lines
labels_fit rules asked owed (Ended ∷ lines) = labels_fit rules (None ∷ []) None lines

-- each refused call is answered before its session ends
abbrev pub AreAnswered : Rules → Option NtStatus → List Line → Type 0
AreAnswered rules owed [] = owed ≡ None
AreAnswered rules owed (Told label ∷ lines) = AreAnswered rules (owed_after rules owed label) lines
AreAnswered rules owed (Lost ∷ lines) = (owed ≡ None) × AreAnswered rules None lines
AreAnswered rules owed (Ended ∷ lines) = (owed ≡ None) × AreAnswered rules None lines

-- the labels of a history that sessions explain fit
abbrev pub LabelsFit : Type 0
LabelsFit = (rules : Rules) (disk : ℕ → List ℕ) (history : List Line) → IsExplained rules disk history → labels_fit rules (None ∷ []) None history ≡ true

-- and it fits, if each refused call is answered before its session ends, and no answer is DEVICE_BUSY
abbrev pub ExplainedFit : Type 0
ExplainedFit = (rules : Rules) (disk : ℕ → List ℕ) (history : List Line) → IsExplained rules disk history → AreAnswered rules None history → All IsNotBusy history → Fits rules history
