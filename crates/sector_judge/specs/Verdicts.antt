-- What a verdict says.
use Rattle.std.specs.Prelude.{◌≤◌, ℕ, List, length, take}
use Rattle.sector_judge.specs.declared.Event.{Event}
use Rattle.sector_judge.specs.declared.Verdict.{Verdict}
use Rattle.sector_judge.specs.declared.Verdict.TheVariants.{Passed, Refused}
use Rattle.sector_judge.specs.Happened.{CanHappen}

-- the first so many can't have happened
pub record IsRefusal (events : List Event) (count : ℕ) : Type 0 where
  pub within : count ≤ length events
  pub never : CanHappen (take count events) → ⊥

-- what passes can have happened, and what is refused can't
abbrev pub IsRight : List Event → Verdict → Type 0
IsRight events Passed = CanHappen events
IsRight events (Refused count) = IsRefusal events count
