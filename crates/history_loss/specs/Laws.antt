-- What is so of each history over sessions that some sessions explain.
use Rattle.std.specs.Prelude.{ℕ, List}
use Rattle.machine.specs.Rules.{Rules}
use Rattle.loss.specs.Sessions.{Line}
use Rattle.history_loss.specs.Histories.{IsExplained}
use Rattle.history_loss.specs.Schedules.{AreScheduled}

-- its sectors have schedules, which share the moments of failures
abbrev pub ExplainedAreScheduled : Type 0
ExplainedAreScheduled = (rules : Rules) (disk : ℕ → List ℕ) (history : List Line) → IsExplained rules disk history → AreScheduled rules disk history
