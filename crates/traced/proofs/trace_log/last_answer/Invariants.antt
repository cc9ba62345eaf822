use Rattle.traced.proofs.Common.{◌≤◌, length, HasNoAnswer}
use Rattle.traced.proofs.trace_log.last_answer.Given as goal

abbrev pub invariant-loop-left : goal.invariant-loop-left
invariant-loop-left l = record { within : l.left ≤ length l.row; none : HasNoAnswer l.number l.trace l.row l.left }

abbrev pub decreases-loop-left : goal.decreases-loop-left
decreases-loop-left l = l.left
