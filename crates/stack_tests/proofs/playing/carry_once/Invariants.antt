use Rattle.std.proofs.Common.{length}
use Rattle.stack_tests.proofs.playing.carry_once.Given as goal

abbrev pub decreases-loop-label : goal.decreases-loop-label
decreases-loop-label g l = length (g.S.Carrier.labels l.carrier)
