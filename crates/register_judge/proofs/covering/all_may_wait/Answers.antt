use Rattle.std.proofs.Common.{◌≡◌, true, subst}
use Rattle.register_judge.specs.inside.Covering.{may_wait}
use Rattle.register_judge.proofs.Pruning.{all_more, all_taken}
use Rattle.register_judge.proofs.covering.all_may_wait.Goals as goal

pub loop-wait-preserved : goal.loop-wait-preserved
loop-wait-preserved c =
    all_more (λ wait. may_wait c.args.others.now wait ≡ true) c.args.waits.now c.loop-wait.wait-index c.wait-item.result c.loop-wait-test.true c.loop-wait.invariant
    (subst (λ wait. may_wait c.args.others.now wait ≡ true) c.wait-item.is c.in-Some.ensures)

pub returns : goal.returns
returns c = λ _. all_taken (λ wait. may_wait c.args.others.now wait ≡ true) c.args.waits.now c.loop-wait.wait-index c.loop-wait-test.false c.loop-wait.invariant
