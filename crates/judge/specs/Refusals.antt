-- What it means that a label wasn't taken.
use Rattle.std.specs.Prelude.{◌≡◌, ◌<◌, ℕ, length}
use Rattle.machine.specs.declared.Label.{Label}
use Rattle.trace_line.specs.declared.Line.{Line}
use Rattle.judge.specs.Following.{JudgeView, Refuses, RefusesLine}
use Rattle.judge.specs.declared.NoVerdict.{NoVerdict}
use Rattle.judge.specs.declared.NoVerdict.TheVariants as no_verdict
use Rattle.judge.specs.declared.stepwise.Refusal.{Refusal}
use Rattle.judge.specs.declared.stepwise.Refusal.TheVariants as refusal

-- the most readings that a judge follows
abbrev pub most_readings : ℕ
most_readings = 1024

-- where memory was refused nothing is said; else the judge holds more readings than it follows
abbrev pub IsNoVerdict : JudgeView → NoVerdict → Type 0
IsNoVerdict j no_verdict.NoMemory = Unit {0}
IsNoVerdict j (no_verdict.Readings readings) = (readings ≡ length j.states) × (most_readings < readings)

-- the label breaks the rule, or there is no verdict
abbrev pub IsRefusal : JudgeView → Label → Refusal → Type 0
IsRefusal j label (refusal.Breaks rule) = Refuses j label rule
IsRefusal j label (refusal.NoVerdict v) = IsNoVerdict j v

-- the line breaks the rule, or there is no verdict
abbrev pub IsLineRefusal : JudgeView → Line → Refusal → Type 0
IsLineRefusal j line (refusal.Breaks rule) = RefusesLine j line rule
IsLineRefusal j line (refusal.NoVerdict v) = IsNoVerdict j v

-- the judge stays as it was where a rule is broken
abbrev pub Keeps : JudgeView → Refusal → JudgeView → Type 0
Keeps old (refusal.Breaks rule) new = new ≡ old
Keeps old (refusal.NoVerdict v) new = Unit {0}
