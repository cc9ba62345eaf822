use Rattle.std.proofs.Common.{◌≡◌, length}
use Rattle.saddlemug.specs.Stepping.{quiet}
use Rattle.saddlemug.proofs.stepping.drop_labels.Given as goal

abbrev pub invariant-loop-label : goal.invariant-loop-label
invariant-loop-label g l = quiet l.stack ≡ quiet l.initial.stack

abbrev pub decreases-loop-label : goal.decreases-loop-label
decreases-loop-label g l = length l.stack.labels
