-- What a verdict says.
use Rattle.std.specs.Prelude.{◌≤◌, ℕ, List, length, take}
use Rattle.register_loss.specs.declared.Sight.{Sight}
use Rattle.register_loss.specs.Schedules.{HasSchedule}
use Rattle.register_loss_judge.specs.declared.Verdict.{Verdict}
use Rattle.register_loss_judge.specs.declared.Verdict.TheVariants.{Passed, Refused, Undecided}

-- no schedule explains the first so many
pub record IsRefusal (start : ℕ) (sights : List Sight) (count : ℕ) : Type 0 where
  pub within : count ≤ length sights
  pub none : HasSchedule start (take count sights) → ⊥

-- what passes has a schedule, and what is refused none
abbrev pub IsRight : ℕ → List Sight → Verdict → Type 0
IsRight start sights Passed = HasSchedule start sights
IsRight start sights (Refused count) = IsRefusal start sights count
IsRight start sights Undecided = Unit {0}
