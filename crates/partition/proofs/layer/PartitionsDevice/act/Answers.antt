use Rattle.partition.proofs.Hand.{acts_shown}
use Rattle.partition.proofs.layer.PartitionsDevice.act.Goals as goal

pub invariant_of-self : goal.invariant_of-self
invariant_of-self g c = (acts_shown _ _ _ _ _ c.self.invariant c.shows_order.ensures.order c.args.tag c.act-acted.result c.act-acted.ensures.acts).1

pub returns-clause-acts : goal.returns-clause-acts
returns-clause-acts g c = rw (← c.self.view_is) (acts_shown _ _ _ _ _ c.self.invariant c.shows_order.ensures.order c.args.tag c.act-acted.result c.act-acted.ensures.acts).0.0

pub returns-clause-outside : goal.returns-clause-outside
returns-clause-outside g c = rw (← c.self.view_is) (acts_shown _ _ _ _ _ c.self.invariant c.shows_order.ensures.order c.args.tag c.act-acted.result c.act-acted.ensures.acts).0.1
