use Rattle.miniport.proofs.Serving.{order_seen, in_use_seen}
use Rattle.miniport.proofs.memory.MemAdapterAdapter.in_use.Goals as goal

pub returns-clause-exact : goal.returns-clause-exact
returns-clause-exact g c = in_use_seen (g.M.Medium.view c.self.inside.medium) c.self.inside.max_transfer c.self.inside.write_protected
    c.self.inside.table _ c.args.tag c.is_in_use.result c.self.view_is c.is_in_use.ensures

pub returns-clause-order : goal.returns-clause-order
returns-clause-order g c = order_seen _ _ _ _ _ c.self.view_is (g.met.M.Medium.whole c.self.inside.medium) c.self.invariant
