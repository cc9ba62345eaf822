-- What is so of each history that a run explains.
use Rattle.std.specs.Prelude.{◌≡◌, ℕ, true, List, Some, slice_get}
use Rattle.machine.specs.declared.Label.{Label}
use Rattle.machine.specs.Rules.{Rules}
use Rattle.machine.specs.Sending.{array_at}
use Rattle.machine_laws.specs.Reached.{AreWhole}
use Rattle.machine_laws.specs.NumberLaws.{AreFrom, call_numbers}
use Rattle.history_laws.specs.History.{IsExplained}
use Rattle.history_laws.specs.Schedules.{IsScheduled}
use Rattle.history_laws.specs.Fitting.{all_fit_at_first}

-- each sector has a schedule
abbrev pub ExplainedAreScheduled : Type 0
ExplainedAreScheduled = (rules : Rules) (arrays : List (List (List ℕ))) (history : List Label) → AreWhole rules arrays → IsExplained rules arrays history
    → (p i : ℕ) (start : List ℕ) → slice_get (array_at arrays p) i ≡ Some start → IsScheduled rules p i start history

-- calls count 1, 2 and on
abbrev pub ExplainedAreNumbered : Type 0
ExplainedAreNumbered = (rules : Rules) (arrays : List (List (List ℕ))) (history : List Label) → IsExplained rules arrays history → AreFrom 1 (call_numbers history)

-- calls carry their bytes, and answers are to open calls and of their sizes
abbrev pub ExplainedFit : Type 0
ExplainedFit = (rules : Rules) (arrays : List (List (List ℕ))) (history : List Label) → AreWhole rules arrays → IsExplained rules arrays history
    → all_fit_at_first rules history ≡ true
