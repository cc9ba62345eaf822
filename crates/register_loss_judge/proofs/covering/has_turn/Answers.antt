use Rattle.std.proofs.Common.{inr}
use Rattle.register_loss_judge.proofs.Listing.{item_there}
use Rattle.register_loss_judge.proofs.covering.has_turn.Goals as goal

pub returns-then-is_turn : goal.returns-then-is_turn
returns-then-is_turn c = λ _. inr (c.one-item.result, item_there c.args.waits.now c.loop-one.one-index c.one-item.result c.loop-one-test.true c.one-item.is, c.is_turn.ensures c.if-is_turn.true)
