-- How a trace is judged as a whole, and why it can't be.
use Rattle.std.specs.Prelude.{◌≡◌, ◌≢◌, ◌⊎◌, ◌<◌, ℕ, Bool, List, Option, length}
use Rattle.std.specs.Io.KnownBytes.{Appends}
use Rattle.std.specs.Str.Lines.{lines}
use Rattle.trace_reader.specs.declared.Recorded.{Recorded}
use Rattle.startup.specs.Reading.{IsAllOf}
use Rattle.startup.specs.declared.ending.Verdict.{Verdict}
use Rattle.startup.specs.declared.ending.Verdict.TheVariants.{Failed}
use Rattle.judging.specs.declared.opened.Standard.{Standard}
use Rattle.judging.specs.declared.course.Course.{Course}
use Rattle.judging.specs.declared.course.Course.TheVariants.{Legal, Refused}
use Rattle.judging.specs.declared.course.Tally.{Tally}
use Rattle.judging.specs.declared.course.Trial.{Trial}
use Rattle.judge_words.specs.declared.asked.Asked.{Asked}
use Rattle.judging.specs.declared.faults.Error.{Error}
use Rattle.judging.specs.declared.faults.Error.TheVariants.{NoLabel}
use Rattle.judging.specs.inside.Course.{IsCourse}
use Rattle.judging.specs.Told.{AreTold}
use Rattle.judging.specs.Checked.{IsOutputFault, IsPassedIf, Meets, legal_by}

-- what all lines of an input come to
pub record IsCourseOf (standard : Standard) (trace a b : Option (List ℕ)) (course : Course) : Type 0 where
  pub text : List ℕ
  pub all : IsAllOf trace text
  pub told_lines : List Recorded
  pub numbers : List ℕ
  pub are_told : AreTold (lines text) told_lines numbers
  pub is : IsCourse standard told_lines numbers a b course

-- what is said of lines that are a run, by their counts
abbrev pub tally_line : Bool → Tally → List ℕ → List ℕ
tally_line json tally left = legal_by json tally.labels tally.calls tally.starts left

-- the judge of a trial meets what is asked for, where it holds a state
abbrev pub MeetsIf : Asked → Trial → Verdict → Type 0
MeetsIf asked trial verdict = 0 < length trial.judge.states → IsPassedIf (Meets asked trial.judge.rules trial.judge.states) verdict

-- what is said of lines that are a run
pub record SaysLegal (asked : Asked) (trial : Trial) (a b : Option (List ℕ)) (verdict : Verdict) : Type 0 where
  pub some_label : trial.tally.labels ≢ 0
  pub meets : MeetsIf asked trial verdict
  pub left : List ℕ
  pub appends : Appends a b (tally_line asked.json trial.tally left)

-- what is said of all lines of a trace
abbrev pub SaysOf : Asked → Course → Option (List ℕ) → Option (List ℕ) → Verdict → Type 0
SaysOf asked (Legal trial) a b verdict = SaysLegal asked trial a b verdict
SaysOf asked (Refused stop) a b verdict = (verdict ≡ Failed) × (b ≡ a)

-- why nothing is: there is no label, or it can't be told
abbrev pub IsLegalFault : Trial → Option (List ℕ) → Option (List ℕ) → Error → Type 0
IsLegalFault trial a b fault = IsOutputFault fault ⊎ ((fault ≡ NoLabel) × (trial.tally.labels ≡ 0) × (b ≡ a))

abbrev pub IsSaysFault : Course → Option (List ℕ) → Option (List ℕ) → Error → Type 0
IsSaysFault (Legal trial) a b fault = IsLegalFault trial a b fault
IsSaysFault (Refused stop) a b fault = ⊥
