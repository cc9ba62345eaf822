-- What a refusal of one sector says of the whole history.
use Rattle.std.specs.Prelude.{◌<◌, ℕ, List}
use Rattle.machine.specs.Rules.{Rules}
use Rattle.loss.specs.Sessions.{Line}
use Rattle.history_loss.specs.Histories.{IsExplained}
use Rattle.history_loss.specs.Schedules.{Event, IsScheduled, lines_of}
use Rattle.register_loss.specs.Schedules.{HasSchedule}
use Rattle.history_loss_sights.specs.Sights.{AreCounted, sights_of}

-- what a sector with a schedule shows has one as a register, whatever numbers stand for its bytes
abbrev pub SightsAreScheduled : Type 0
SightsAreScheduled = (code : List ℕ → ℕ) (rules : Rules) (i : ℕ) (start : List ℕ) (shared : List Event)
    → i < rules.disk_sectors → AreCounted 1 (lines_of shared) → IsScheduled rules i start shared → HasSchedule (code start) (sights_of code rules i (lines_of shared))

-- where what some sector shows has no schedule, no sessions explain the history
abbrev pub RefusedAreUnexplained : Type 0
RefusedAreUnexplained = (code : List ℕ → ℕ) (rules : Rules) (disk : ℕ → List ℕ) (history : List Line) (i : ℕ)
    → i < rules.disk_sectors → AreCounted 1 history → (HasSchedule (code (disk i)) (sights_of code rules i history) → ⊥) → IsExplained rules disk history → ⊥
