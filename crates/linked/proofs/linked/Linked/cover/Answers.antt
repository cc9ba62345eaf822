use Rattle.linked.proofs.Queueing.{covers}
use Rattle.linked.proofs.linked.Linked.cover.Goals as goal

pub invariant_of-self : goal.invariant_of-self
invariant_of-self g c = (covers c.self.inside.links c.cover.new.self c.args.self.now c.self.view_is c.self.invariant c.cover.ensures.same c.cover.ensures.count c.cover.ensures.unvisited).1

pub returns-clause-same : goal.returns-clause-same
returns-clause-same g c = (covers c.self.inside.links c.cover.new.self c.args.self.now c.self.view_is c.self.invariant c.cover.ensures.same c.cover.ensures.count c.cover.ensures.unvisited).0
