use Rattle.partition.proofs.Hand.{pauses_shown}
use Rattle.partition.proofs.layer.PartitionsHold.pause.Goals as goal

pub invariant_of-self : goal.invariant_of-self
invariant_of-self g c = (pauses_shown _ _ _ _ _ c.self.invariant c.shows_order.ensures.order c.pause.ensures.pauses).1

pub returns : goal.returns
returns g c = rw (← c.self.view_is) (record { pauses = (pauses_shown _ _ _ _ _ c.self.invariant c.shows_order.ensures.order c.pause.ensures.pauses).0 })
