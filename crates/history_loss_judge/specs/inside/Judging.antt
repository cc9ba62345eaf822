-- How verdicts of sectors make one.
use Rattle.std.specs.Prelude.{◌≡◌, ◌⊎◌, ℕ, Bool, true, false, List, Option, Some, None, All, if◌then◌else◌}
use Rattle.loss.specs.Sessions.{Line}
use Rattle.register_loss_judge.specs.declared.observed.SoFar.{SoFar}
use Rattle.register_loss_judge.specs.declared.observed.SoFar.TheVariants.{Passed as PassedSoFar, Refused as RefusedSoFar, Undecided as UndecidedSoFar}
use Rattle.history_fitting.specs.declared.service.Service.{Service}
use Rattle.history_loss_judge.specs.declared.judging.Verdict.{Verdict}
use Rattle.history_loss_judge.specs.declared.judging.Verdict.TheVariants.{Passed, Refused, Undecided, Open, Owing}
use Rattle.history_loss_judge.specs.Verdicts.{IsRight, PassesSteady}

-- what passes is each of these sectors
abbrev pub IsRightOf : Service → List ℕ → List Line → List ℕ → Verdict → Type 0
IsRightOf service start lines sectors Passed = All (PassesSteady service start lines) sectors
IsRightOf service start lines sectors (Owing line) = ⊥
IsRightOf service start lines sectors verdict = IsRight service start lines verdict

-- one of two verdicts, which passes only where both do
pub record IsOneOf (a b verdict : Verdict) : Type 0 where
  pub passes : verdict ≡ Passed → (a ≡ Passed) × (b ≡ Passed)
  pub one : (verdict ≡ a) ⊎ (verdict ≡ b)

-- what is said of a sector by what is known of it
abbrev pub IsVerdictOf : ℕ → SoFar → SoFar → Verdict → Type 0
IsVerdictOf sector RefusedSoFar steady verdict = (line : ℕ) × (verdict ≡ Refused sector line)
IsVerdictOf sector PassedSoFar PassedSoFar verdict = verdict ≡ Passed
IsVerdictOf sector PassedSoFar RefusedSoFar verdict = verdict ≡ Open sector
IsVerdictOf sector PassedSoFar UndecidedSoFar verdict = verdict ≡ Undecided sector
IsVerdictOf sector UndecidedSoFar PassedSoFar verdict = verdict ≡ Passed
IsVerdictOf sector UndecidedSoFar RefusedSoFar verdict = verdict ≡ Undecided sector
IsVerdictOf sector UndecidedSoFar UndecidedSoFar verdict = verdict ≡ Undecided sector

-- ALL SECTORS

abbrev pub is_passed : Verdict → Bool
is_passed Passed = true
is_passed _ = false

-- what is said where each sector has a schedule
abbrev pub owed_by : Option ℕ → Verdict
owed_by (Some line) = Owing line
owed_by None = Passed

abbrev pub with_owing : Verdict → Option ℕ → Verdict
with_owing verdict owing = if is_passed verdict then owed_by owing else verdict

-- what passes is each sector
abbrev pub IsRightOfAll : Service → List ℕ → List Line → Verdict → Type 0
IsRightOfAll service start lines Passed = (i : ℕ) → PassesSteady service start lines i
IsRightOfAll service start lines (Owing line) = ⊥
IsRightOfAll service start lines verdict = IsRight service start lines verdict
