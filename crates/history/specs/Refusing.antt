-- What a refusal of one sector says of the whole history.
use Rattle.std.specs.Prelude.{◌≡◌, ℕ, List, [], Some, slice_get}
use Rattle.machine.specs.declared.Label.{Label}
use Rattle.machine.specs.Rules.{Rules}
use Rattle.machine.specs.Sending.{array_at}
use Rattle.machine_laws.specs.Reached.{AreWhole}
use Rattle.machine_laws.specs.NumberLaws.{AreFrom, call_numbers}
use Rattle.history_laws.specs.History.{IsExplained}
use Rattle.history_laws.specs.Schedules.{IsScheduled}
use Rattle.register.specs.Schedules.{HasSchedule}
use Rattle.history.specs.Sights.{sights_of}

-- what a sector with a schedule shows has one as a register, whatever numbers stand for its bytes
abbrev pub SightsAreScheduled : Type 0
SightsAreScheduled = (code : List ℕ → ℕ) (rules : Rules) (p i : ℕ) (start : List ℕ) (history : List Label)
    → AreFrom 1 (call_numbers history) → IsScheduled rules p i start history → HasSchedule (code start) (sights_of code rules p i [] history)

-- where what some sector shows has no schedule, no run explains the history
abbrev pub RefusedAreUnexplained : Type 0
RefusedAreUnexplained = (code : List ℕ → ℕ) (rules : Rules) (arrays : List (List (List ℕ))) (history : List Label) (p i : ℕ) (start : List ℕ)
    → AreWhole rules arrays → slice_get (array_at arrays p) i ≡ Some start
    → (HasSchedule (code start) (sights_of code rules p i [] history) → ⊥) → IsExplained rules arrays history → ⊥
