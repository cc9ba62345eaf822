use Rattle.miniport.proofs.Serving.{after_finish}
use Rattle.miniport.proofs.memory.MemAdapterAdapter.finish.Goals as goal

pub invariant_of-self : goal.invariant_of-self
invariant_of-self g c = (after_finish (g.M.Medium.view c.self.inside.medium) c.self.inside.max_transfer c.self.inside.write_protected c.self.inside.table _ _ c.args.tag c.finish.result c.self.view_is
    (g.met.M.Medium.whole c.self.inside.medium) c.self.invariant c.requires c.finish.ensures).kept

pub returns-clause-finishes : goal.returns-clause-finishes
returns-clause-finishes g c = (after_finish (g.M.Medium.view c.self.inside.medium) c.self.inside.max_transfer c.self.inside.write_protected c.self.inside.table _ _ c.args.tag c.finish.result c.self.view_is
    (g.met.M.Medium.whole c.self.inside.medium) c.self.invariant c.requires c.finish.ensures).finishes

pub returns-clause-order : goal.returns-clause-order
returns-clause-order g c = (after_finish (g.M.Medium.view c.self.inside.medium) c.self.inside.max_transfer c.self.inside.write_protected c.self.inside.table _ _ c.args.tag c.finish.result c.self.view_is
    (g.met.M.Medium.whole c.self.inside.medium) c.self.invariant c.requires c.finish.ensures).order

pub returns-clause-due : goal.returns-clause-due
returns-clause-due g c = (after_finish (g.M.Medium.view c.self.inside.medium) c.self.inside.max_transfer c.self.inside.write_protected c.self.inside.table _ _ c.args.tag c.finish.result c.self.view_is
    (g.met.M.Medium.whole c.self.inside.medium) c.self.invariant c.requires c.finish.ensures).due
