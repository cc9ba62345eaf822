use Rattle.std.proofs.Common.{subst}
use Rattle.register_loss_search.specs.Covering.{HasDuty}
use Rattle.register_loss_judge.proofs.Listing.{all_more, all_taken}
use Rattle.register_loss_judge.proofs.covering.have_duties.Goals as goal

pub loop-one-preserved : goal.loop-one-preserved
loop-one-preserved c =
    all_more (λ x. HasDuty c.args.others.now x) c.args.waits.now c.loop-one.one-index c.one-item.result c.loop-one-test.true c.loop-one.invariant
    (subst (λ x. HasDuty c.args.others.now x) c.one-item.is (c.has_duty.ensures c.if-not-has_duty.false))

pub returns : goal.returns
returns c = λ _. all_taken (λ x. HasDuty c.args.others.now x) c.args.waits.now c.loop-one.one-index c.loop-one-test.false c.loop-one.invariant
