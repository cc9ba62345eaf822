use Rattle.std.proofs.Common.{◌≡◌, ◌++◌, map, drop}
use Rattle.register_loss.specs.Schedules.{marked}
use Rattle.register_loss_judge.proofs.turning.all_marked.Given as goal

abbrev pub invariant-loop-wait : goal.invariant-loop-wait
invariant-loop-wait l = l.all.items ++ map (marked l.of) (drop l.wait-index l.waits) ≡ map (marked l.of) l.waits
