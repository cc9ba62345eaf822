use Rattle.register_loss_judge.proofs.Listing.{item_there}
use Rattle.register_loss_judge.proofs.covering.has_duty.Goals as goal

pub returns-then-is_duty : goal.returns-then-is_duty
returns-then-is_duty c = λ _. (c.other-item.result, item_there c.args.others.now c.loop-other.other-index c.other-item.result c.loop-other-test.true c.other-item.is, c.is_duty.ensures c.if-is_duty.true)
