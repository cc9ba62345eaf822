use Rattle.partition.proofs.Hand.{cancels_at_shown}
use Rattle.partition.proofs.layer.PartitionsDevice.cancel_at.Goals as goal

pub invariant_of-self : goal.invariant_of-self
invariant_of-self g c = (cancels_at_shown _ _ _ _ _ c.self.invariant c.shows_order.ensures.order c.args.spot c.args.number c.cancel_at.ensures.cancels).1

pub returns : goal.returns
returns g c = rw (← c.self.view_is) (record { cancels = (cancels_at_shown _ _ _ _ _ c.self.invariant c.shows_order.ensures.order c.args.spot c.args.number c.cancel_at.ensures.cancels).0 })
