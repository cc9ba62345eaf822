-- A register that is watched, sight by sight.
use Rattle.std.specs.Prelude.{ℕ, List}
use Rattle.register_loss.specs.declared.Sight.{Sight}
use Rattle.register_loss.specs.Schedules.{HasSchedule}
use Rattle.register_loss_judge.specs.declared.observed.SoFar.{SoFar}
use Rattle.register_loss_judge.specs.declared.observed.SoFar.TheVariants.{Passed, Refused, Undecided}

-- what it had at the start, and what was seen of it
pub record ObservedView : Type 0 where
  pub start : ℕ
  pub sights : List Sight

-- what passes has a schedule, and what is refused none
abbrev pub IsSoFar : ℕ → List Sight → SoFar → Type 0
IsSoFar start sights Passed = HasSchedule start sights
IsSoFar start sights Refused = HasSchedule start sights → ⊥
IsSoFar start sights Undecided = Unit {0}
