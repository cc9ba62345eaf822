use Rattle.std.proofs.Common.{length}
use Rattle.script.proofs.PrintedLabels.{AreWritten}
use Rattle.script.proofs.player.write_labels.Given as goal

-- the labels before those that are left are written
abbrev pub invariant-loop-label : goal.invariant-loop-label
invariant-loop-label g l = AreWritten l.style l.initial.telling.text.items l.initial.stack l.stack l.telling.text.items

abbrev pub decreases-loop-label : goal.decreases-loop-label
decreases-loop-label g l = length l.stack.labels
