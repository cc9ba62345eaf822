use Rattle.std.proofs.Common.{length}
use Rattle.hostile.proofs.playing.labels_of.Given as goal

abbrev pub decreases-loop-label : goal.decreases-loop-label
decreases-loop-label g l = length l.stack.labels
