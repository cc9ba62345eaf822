use Rattle.miniport.proofs.Serving.{after_act}
use Rattle.miniport.proofs.memory.MemAdapterAdapter.act.Goals as goal

pub invariant_of-self : goal.invariant_of-self
invariant_of-self g c = (after_act (g.M.Medium.view c.self.inside.medium) c.self.inside.max_transfer c.self.inside.write_protected c.self.inside.table _ c.args.tag c.act_on.result _ _ c.self.view_is
    (g.met.M.Medium.whole _) c.self.invariant c.requires c.act_on.ensures).kept

pub returns-clause-acts : goal.returns-clause-acts
returns-clause-acts g c = (after_act (g.M.Medium.view c.self.inside.medium) c.self.inside.max_transfer c.self.inside.write_protected c.self.inside.table _ c.args.tag c.act_on.result _ _ c.self.view_is
    (g.met.M.Medium.whole _) c.self.invariant c.requires c.act_on.ensures).acts

pub returns-clause-order : goal.returns-clause-order
returns-clause-order g c = (after_act (g.M.Medium.view c.self.inside.medium) c.self.inside.max_transfer c.self.inside.write_protected c.self.inside.table _ c.args.tag c.act_on.result _ _ c.self.view_is
    (g.met.M.Medium.whole _) c.self.invariant c.requires c.act_on.ensures).order

pub returns-clause-by_table : goal.returns-clause-by_table
returns-clause-by_table g c = (after_act (g.M.Medium.view c.self.inside.medium) c.self.inside.max_transfer c.self.inside.write_protected c.self.inside.table _ c.args.tag c.act_on.result _ _ c.self.view_is
    (g.met.M.Medium.whole _) c.self.invariant c.requires c.act_on.ensures).by_table
