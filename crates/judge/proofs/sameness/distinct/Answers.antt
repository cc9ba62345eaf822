use Rattle.judge.proofs.Alike.{added}
use Rattle.judge.proofs.sameness.distinct.Goals as goal

pub loop-machine-preserved : goal.loop-machine-preserved
loop-machine-preserved c = added c.loop-machine.yielded c.loop-machine.once.items c.in-Some.machine c.add_new.new.once.items c.in_ok-add_new.ensures c.loop-machine.invariant
