-- How verdicts of sectors make one.
use Rattle.std.specs.Prelude.{◌≡◌, ◌⊎◌, ℕ, Bool, true, false, List, All}
use Rattle.machine.specs.declared.Label.{Label}
use Rattle.register_judge.specs.declared.observed.SoFar.{SoFar}
use Rattle.register_judge.specs.declared.observed.SoFar.TheVariants.{Passed as PassedSoFar, Refused as RefusedSoFar, Undecided as UndecidedSoFar}
use Rattle.history_fitting.specs.declared.service.Service.{Service}
use Rattle.history_fitting.specs.declared.service.Place.{Place}
use Rattle.history_judge.specs.declared.judging.Verdict.{Verdict}
use Rattle.history_judge.specs.declared.judging.Verdict.TheVariants.{Passed, Refused, Undecided}
use Rattle.history_judge.specs.Verdicts.{Passes, PassesFromSome, IsRightBy}

-- from these bytes on, or where any will do from some
abbrev pub PassesBy : Bool → Service → List ℕ → List Label → Place → Type 0
PassesBy false service start history place = Passes service start history place
PassesBy true service start history place = PassesFromSome service history place

-- what passes is each of these sectors
abbrev pub IsRightOf : Bool → Service → List ℕ → List Bool → List Label → List Place → Verdict → Type 0
IsRightOf any service start gaps history places Passed = All (PassesBy any service start history) places
IsRightOf any service start gaps history places verdict = IsRightBy any service start gaps history verdict

-- one of two verdicts, which passes only where both do
pub record IsOneOf (a b verdict : Verdict) : Type 0 where
  pub passes : verdict ≡ Passed → (a ≡ Passed) × (b ≡ Passed)
  pub one : (verdict ≡ a) ⊎ (verdict ≡ b)

-- what is said of a sector by what is known of it
abbrev pub IsVerdictOf : Place → SoFar → Verdict → Type 0
IsVerdictOf place PassedSoFar verdict = verdict ≡ Passed
IsVerdictOf place RefusedSoFar verdict = (line : ℕ) × (verdict ≡ Refused place line)
IsVerdictOf place UndecidedSoFar verdict = verdict ≡ Undecided place
