use Rattle.partition.proofs.Hand.{drains_shown}
use Rattle.partition.proofs.layer.PartitionsDevice.drain.Goals as goal

pub invariant_of-self : goal.invariant_of-self
invariant_of-self g c = (drains_shown _ _ _ _ _ c.self.invariant c.shows_order.ensures.order c.drain.ensures.drains).1

pub returns : goal.returns
returns g c = rw (← c.self.view_is) (record { drains = (drains_shown _ _ _ _ _ c.self.invariant c.shows_order.ensures.order c.drain.ensures.drains).0 })
