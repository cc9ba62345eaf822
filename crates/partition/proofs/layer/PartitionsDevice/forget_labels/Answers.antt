use Rattle.partition.proofs.Hand.{forgets_shown}
use Rattle.partition.proofs.layer.PartitionsDevice.forget_labels.Goals as goal

pub invariant_of-self : goal.invariant_of-self
invariant_of-self g c = (forgets_shown _ _ _ _ _ c.self.invariant c.shows_order.ensures.order c.forget_labels.ensures.forgets).1

pub returns : goal.returns
returns g c = rw (← c.self.view_is) (record { forgets = (forgets_shown _ _ _ _ _ c.self.invariant c.shows_order.ensures.order c.forget_labels.ensures.forgets).0 })
