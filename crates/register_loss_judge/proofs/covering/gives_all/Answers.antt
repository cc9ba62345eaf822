use Rattle.std.proofs.Common.{subst}
use Rattle.loss.specs.Held.{IsOneOf}
use Rattle.register_loss_judge.proofs.Listing.{all_more, all_taken}
use Rattle.register_loss_judge.proofs.covering.gives_all.Goals as goal

pub loop-value-preserved : goal.loop-value-preserved
loop-value-preserved c =
    all_more (λ x. IsOneOf x c.args.now.now) c.args.values.now c.loop-value.value-index c.value-item.result c.loop-value-test.true c.loop-value.invariant
    (subst (λ x. IsOneOf x c.args.now.now) c.value-item.is (c.gives.ensures c.if-not-gives.false))

pub returns : goal.returns
returns c = λ _. all_taken (λ x. IsOneOf x c.args.now.now) c.args.values.now c.loop-value.value-index c.loop-value-test.false c.loop-value.invariant
