use Rattle.partition.proofs.Hand.{finishes_shown}
use Rattle.partition.proofs.layer.PartitionsDevice.finish.Goals as goal

pub invariant_of-self : goal.invariant_of-self
invariant_of-self g c = (finishes_shown _ _ _ _ _ c.self.invariant c.shows_order.ensures.order c.args.tag c.finish-finished.result c.finish-finished.ensures.finishes).1

pub returns : goal.returns
returns g c = rw (← c.self.view_is) (record { finishes = (finishes_shown _ _ _ _ _ c.self.invariant c.shows_order.ensures.order c.args.tag c.finish-finished.result c.finish-finished.ensures.finishes).0 })
