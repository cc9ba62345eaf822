use Rattle.miniport.proofs.Booking.{armed_seen, none_armed}
use Rattle.miniport.proofs.Serving.{order_seen}
use Rattle.miniport.proofs.memory.MemAdapterAdapter.armed.Goals as goal

pub returns-in-None-clause-exact : goal.returns-in-None-clause-exact
returns-in-None-clause-exact g c = none_armed (g.M.Medium.view c.self.inside.medium) c.self.inside.max_transfer c.self.inside.write_protected c.self.inside.table _ c.args.tag c.self.view_is c.in-None.ensures

pub returns-in-None-clause-order : goal.returns-in-None-clause-order
returns-in-None-clause-order g c = order_seen _ _ _ _ _ c.self.view_is (g.met.M.Medium.whole c.self.inside.medium) c.self.invariant

pub returns-in-Some-clause-exact : goal.returns-in-Some-clause-exact
returns-in-Some-clause-exact g c = armed_seen (g.M.Medium.view c.self.inside.medium) c.self.inside.max_transfer c.self.inside.write_protected c.self.inside.table _ c.args.tag c.in-Some.on_tag.now c.self.view_is c.in-Some.ensures.0 c.in-Some.ensures.1

pub returns-in-Some-clause-order : goal.returns-in-Some-clause-order
returns-in-Some-clause-order g c = order_seen _ _ _ _ _ c.self.view_is (g.met.M.Medium.whole c.self.inside.medium) c.self.invariant
