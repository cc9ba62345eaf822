use Rattle.std.proofs.Common.{length}
use Rattle.serving.proofs.Writing.{AreLined}
use Rattle.serving.proofs.pens.write_lines.Given as goal

-- the labels before those that are left are written
abbrev pub invariant-loop-label : goal.invariant-loop-label
invariant-loop-label l = AreLined l.initial.text.items l.initial.stack l.stack l.all l.text.items

abbrev pub decreases-loop-label : goal.decreases-loop-label
decreases-loop-label l = length l.stack.labels
