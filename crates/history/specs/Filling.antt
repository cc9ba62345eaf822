-- What bytes that were not recorded may have been.
use Rattle.std.specs.Prelude.{◌≡◌, ℕ, Bool, true, List, [], Some, slice_get}
use Rattle.machine.specs.declared.Label.{Label}
use Rattle.machine.specs.Rules.{Rules}
use Rattle.machine.specs.Sending.{array_at}
use Rattle.machine_laws.specs.Reached.{AreWhole}
use Rattle.history_laws.specs.Fitting.{all_fit_at_first}
use Rattle.register.specs.Values.{code}
use Rattle.register.specs.Schedules.{HasSchedule}
use Rattle.history.specs.Sights.{sights_of}
use Rattle.history.specs.Gaps.{AreFilled, IsExplainedBySome, all_fit_by_at_first}

-- what a sector shows with some bytes in the place of those that were not recorded has a schedule only if it has one without
abbrev pub BlanksAreScheduled : Type 0
BlanksAreScheduled = (rules : Rules) (p i : ℕ) (start : ℕ) (gaps : List Bool) (history whole : List Label) → AreFilled gaps history whole
    → HasSchedule start (sights_of code rules p i [] whole) → HasSchedule start (sights_of code rules p i [] history)

-- labels that fit with some bytes do without
abbrev pub FilledFit : Type 0
FilledFit = (rules : Rules) (gaps : List Bool) (history whole : List Label) → AreFilled gaps history whole
    → all_fit_at_first rules whole ≡ true → all_fit_by_at_first rules gaps history ≡ true

-- where what some sector shows has no schedule, no run explains the history with whatever bytes
abbrev pub RefusedAreUnexplainedByAny : Type 0
RefusedAreUnexplainedByAny = (rules : Rules) (arrays : List (List (List ℕ))) (gaps : List Bool) (history : List Label) (p i : ℕ) (start : List ℕ)
    → AreWhole rules arrays → slice_get (array_at arrays p) i ≡ Some start
    → (HasSchedule (code start) (sights_of code rules p i [] history) → ⊥) → IsExplainedBySome rules arrays gaps history → ⊥

-- what a run explains with some bytes fits
abbrev pub ExplainedBySomeFit : Type 0
ExplainedBySomeFit = (rules : Rules) (arrays : List (List (List ℕ))) (gaps : List Bool) (history : List Label) → AreWhole rules arrays
    → IsExplainedBySome rules arrays gaps history → all_fit_by_at_first rules gaps history ≡ true
