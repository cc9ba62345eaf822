use Rattle.miniport.proofs.ActingApart.{after_act_apart}
use Rattle.miniport.proofs.memory.MemAdapter.act_apart.Goals as goal

pub invariant_of-self : goal.invariant_of-self
invariant_of-self g c = (after_act_apart (g.M.Medium.view c.self.inside.medium) (g.M.Medium.view c.act_apart_on.new.medium) c.self.inside.max_transfer c.self.inside.write_protected c.self.inside.table c.act_apart_on.new.table _ c.args.tag c.act_apart_on.result c.self.view_is
    (g.met.M.Medium.whole c.self.inside.medium) (g.met.M.Medium.whole c.act_apart_on.new.medium) c.self.invariant c.requires.place c.act_apart_on.ensures).kept

pub returns-clause-acts : goal.returns-clause-acts
returns-clause-acts g c = (after_act_apart (g.M.Medium.view c.self.inside.medium) (g.M.Medium.view c.act_apart_on.new.medium) c.self.inside.max_transfer c.self.inside.write_protected c.self.inside.table c.act_apart_on.new.table _ c.args.tag c.act_apart_on.result c.self.view_is
    (g.met.M.Medium.whole c.self.inside.medium) (g.met.M.Medium.whole c.act_apart_on.new.medium) c.self.invariant c.requires.place c.act_apart_on.ensures).acts

pub returns-clause-order : goal.returns-clause-order
returns-clause-order g c = (after_act_apart (g.M.Medium.view c.self.inside.medium) (g.M.Medium.view c.act_apart_on.new.medium) c.self.inside.max_transfer c.self.inside.write_protected c.self.inside.table c.act_apart_on.new.table _ c.args.tag c.act_apart_on.result c.self.view_is
    (g.met.M.Medium.whole c.self.inside.medium) (g.met.M.Medium.whole c.act_apart_on.new.medium) c.self.invariant c.requires.place c.act_apart_on.ensures).order
