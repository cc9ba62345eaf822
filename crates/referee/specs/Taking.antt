-- Lines that a referee is told, one by one.
use Rattle.std.specs.Prelude.{◌≡◌, ◌<◌, ◌≤◌, ℕ, List, Option, None, Some, MatchOption, Any, length}
use Rattle.machine.specs.declared.Label.{Label}
use Rattle.machine.specs.declared.Label.TheVariants.{Call}
use Rattle.trace_line.specs.declared.Line.{Line}
use Rattle.judge.specs.Following.{JudgeView, RefusesLine, TakesLine}
use Rattle.judge.specs.LeftUndone.{IsSettled}
use Rattle.judge.specs.Refusals.{most_readings}
use Rattle.judge.specs.declared.NoVerdict.TheVariants as no_verdict
use Rattle.judge.specs.declared.stepwise.Refusal.{Refusal}
use Rattle.judge.specs.declared.stepwise.Refusal.TheVariants as refusal
use Rattle.referee.specs.declared.telling.Told.{Told}
use Rattle.referee.specs.declared.telling.Told.TheVariants.{Line as TellsLine, Nothing, Bad}
use Rattle.referee.specs.declared.why.Why.{Why}
use Rattle.referee.specs.declared.why.Why.TheVariants.{Breaks, BadLine, NoPartition, NoMemory, BadLabel, Readings}
use Rattle.referee.specs.Numbers.{number_of}

-- a judge, and why it didn't take the last line, if it didn't
pub record RefereeView : Type 0 where
  pub judge : JudgeView
  pub why : Option Why

-- the partition of a call whose handle is open
abbrev pub partition_of : Label → Option ℕ
partition_of (Call number request) = request.partition
partition_of _ = None

abbrev pub IsBelow : ℕ → Option ℕ → Type 0
IsBelow count None = Unit {0}
IsBelow count (Some partition) = partition < count

-- a call is in one of so many partitions, or has no open handle
abbrev pub IsInTable : ℕ → Label → Type 0
IsInTable count label = IsBelow count (partition_of label)

-- the call is in a partition that none of so many is
abbrev pub IsAbsent : ℕ → Label → ℕ → Type 0
IsAbsent count label partition = (partition_of label ≡ Some partition) × (count ≤ partition)

-- one line more is taken
pub record IsTaken (old : JudgeView) (line : Line) (new : JudgeView) : Type 0 where
  pub same_rules : new.rules ≡ old.rules
  pub takes : TakesLine old line new
  pub in_table : IsInTable (length old.rules.partitions) line.label

-- a refusal as it is told
abbrev pub why_by : Refusal → Why
why_by (refusal.Breaks rule) = Breaks rule
why_by (refusal.NoVerdict no_verdict.NoMemory) = NoMemory
why_by (refusal.NoVerdict (no_verdict.Readings readings)) = Readings readings

-- why a line isn't taken. Where it breaks a rule, or there is no such partition, nothing has changed
abbrev pub IsWhy : JudgeView → Line → Why → JudgeView → Type 0
IsWhy old line (Breaks rule) new = RefusesLine old line rule × (new ≡ old)
IsWhy old line (NoPartition partition count) new = IsAbsent count line.label partition × (count ≡ length old.rules.partitions) × (new ≡ old)
IsWhy old line (BadLine column) new = ⊥
IsWhy old line BadLabel new = ⊥
IsWhy old line NoMemory new = Unit {0}
IsWhy old line (Readings readings) new = (readings ≡ length old.states) × (most_readings < readings)

-- a line is taken, and the number is 0; or it isn't, and the number says why
abbrev pub IsTold : RefereeView → Line → ℕ → RefereeView → Type 0
IsTold old line number new =
    MatchOption new.why ((number ≡ 0) × IsTaken old.judge line new.judge) (λ why. (number ≡ number_of why) × IsWhy old.judge line why new.judge)

-- what a text tells is taken
abbrev pub GoesBy : RefereeView → Told → ℕ → RefereeView → Type 0
GoesBy old (TellsLine line) number new = IsTold old line number new
GoesBy old Nothing number new = (number ≡ 0) × (new ≡ record old { why = None })
GoesBy old (Bad why) number new = (number ≡ number_of why) × (new ≡ record old { why = Some why })

-- the lines that were taken leave nothing undone
abbrev pub LeavesNothing : RefereeView → Type 0
LeavesNothing r = Any (IsSettled r.judge.rules) r.judge.states
