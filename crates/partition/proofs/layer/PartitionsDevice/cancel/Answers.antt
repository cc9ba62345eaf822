use Rattle.partition.proofs.Hand.{cancels_shown}
use Rattle.partition.proofs.layer.PartitionsDevice.cancel.Goals as goal

pub invariant_of-self : goal.invariant_of-self
invariant_of-self g c = (cancels_shown _ _ _ _ _ c.self.invariant c.shows_order.ensures.order c.args.number c.cancel.ensures.cancels).1

pub returns : goal.returns
returns g c = rw (← c.self.view_is) (record { cancels = (cancels_shown _ _ _ _ _ c.self.invariant c.shows_order.ensures.order c.args.number c.cancel.ensures.cancels).0 })
