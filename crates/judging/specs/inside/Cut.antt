-- A text that breaks the rule that is sought.
use Rattle.std.specs.Prelude.{◌≡◌, ℕ, List, Option, None, Some, codes}
use Rattle.std.specs.Io.KnownBytes.{Appends}
use Rattle.startup.specs.declared.ending.Verdict.{Verdict}
use Rattle.startup.specs.declared.ending.Verdict.TheVariants.{Passed, Failed}
use Rattle.judging.specs.Cutting.{IsRefusedIn, IsSameRule}
use Rattle.judging.specs.declared.course.Course.{Course}
use Rattle.judging.specs.declared.course.Course.TheVariants.{Legal, Refused}
use Rattle.judging.specs.declared.course.Stop.{Stop}
use Rattle.judging.specs.declared.cutting.Remnant.{Remnant}
use Rattle.judging.specs.declared.misstep.Misstep.{Misstep}
use Rattle.judging.specs.declared.opened.Standard.{Standard}

-- the text is refused, for the same as this but for its numbers
pub record IsCut (standard : Standard) (sought : Misstep) (cut : Remnant) : Type 0 where
  pub refused : IsRefusedIn standard cut.text.items cut.stop.line cut.stop.misstep
  pub same : IsSameRule sought cut.stop.misstep

-- what is written: what is left, or the whole text
abbrev pub left_of : List ℕ → Option Remnant → List ℕ
left_of text None = text
left_of text (Some cut) = cut.text.items

abbrev pub WritesLeast : List ℕ → Option (List ℕ) → Option (List ℕ) → Verdict → Type 0
WritesLeast text old new verdict = (verdict ≡ Passed) × Appends old new text

-- a remark is written
abbrev pub SaysRun : Option (List ℕ) → Option (List ℕ) → Verdict → Type 0
SaysRun old new verdict = (verdict ≡ Failed) × Appends old new (codes "# The trace is legal.\n")

-- where lines are refused
abbrev pub stop_of : Course → Option Stop
stop_of (Legal trial) = None
stop_of (Refused stop) = Some stop
