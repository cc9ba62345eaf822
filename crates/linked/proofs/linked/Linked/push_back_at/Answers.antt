use Rattle.linked.proofs.Queueing.{pushes}
use Rattle.linked.proofs.linked.Linked.push_back_at.Goals as goal

pub invariant_of-self : goal.invariant_of-self
invariant_of-self g c = (pushes c.self.inside.links c.push.new.self c.args.self.now c.args.spot c.args.item c.self.view_is c.self.invariant c.push.ensures).1

pub returns : goal.returns
returns g c = (pushes c.self.inside.links c.push.new.self c.args.self.now c.args.spot c.args.item c.self.view_is c.self.invariant c.push.ensures).0
