use Rattle.partition.proofs.Hand.{label_shown}
use Rattle.partition.proofs.layer.PartitionsDevice.take_label.Goals as goal

pub invariant_of-self : goal.invariant_of-self
invariant_of-self g c = (label_shown _ _ _ _ _ c.self.invariant c.shows_order.ensures.order c.take_label-label.result c.take_label-label.ensures.takes).1

pub returns : goal.returns
returns g c = rw (← c.self.view_is) (record { takes = (label_shown _ _ _ _ _ c.self.invariant c.shows_order.ensures.order c.take_label-label.result c.take_label-label.ensures.takes).0 })
