use Rattle.partition.proofs.Hand.{resets_shown}
use Rattle.partition.proofs.layer.PartitionsDevice.reset.Goals as goal

pub invariant_of-self : goal.invariant_of-self
invariant_of-self g c = (resets_shown _ _ _ _ _ c.self.invariant c.shows_order.ensures.order c.reset.ensures.resets).1

pub returns : goal.returns
returns g c = rw (← c.self.view_is) (record { resets = (resets_shown _ _ _ _ _ c.self.invariant c.shows_order.ensures.order c.reset.ensures.resets).0 })
