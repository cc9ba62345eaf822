use Rattle.std.proofs.Common.{subst}
use Rattle.register_loss_search.specs.Covering.{HasTurn}
use Rattle.register_loss_judge.proofs.Listing.{all_more, all_taken}
use Rattle.register_loss_judge.proofs.covering.have_turns.Goals as goal

pub loop-other-preserved : goal.loop-other-preserved
loop-other-preserved c =
    all_more (λ x. HasTurn c.args.waits.now x) c.args.others.now c.loop-other.other-index c.other-item.result c.loop-other-test.true c.loop-other.invariant
    (subst (λ x. HasTurn c.args.waits.now x) c.other-item.is (c.has_turn.ensures c.if-not-has_turn.false))

pub returns : goal.returns
returns c = λ _. all_taken (λ x. HasTurn c.args.waits.now x) c.args.others.now c.loop-other.other-index c.loop-other-test.false c.loop-other.invariant
