use Rattle.miniport.proofs.Failing.{after_fail}
use Rattle.miniport.proofs.memory.MemAdapter.fail.Goals as goal

pub invariant_of-self : goal.invariant_of-self
invariant_of-self g c = (after_fail (g.M.Medium.view c.self.inside.medium) c.self.inside.max_transfer c.self.inside.write_protected c.self.inside.table _ _ c.args.tag c.args.completion c.fail.result
    c.self.view_is (g.met.M.Medium.whole c.self.inside.medium) c.self.invariant c.requires.bad c.requires.place c.fail.ensures).kept

pub returns-clause-acts : goal.returns-clause-acts
returns-clause-acts g c = (after_fail (g.M.Medium.view c.self.inside.medium) c.self.inside.max_transfer c.self.inside.write_protected c.self.inside.table _ _ c.args.tag c.args.completion c.fail.result
    c.self.view_is (g.met.M.Medium.whole c.self.inside.medium) c.self.invariant c.requires.bad c.requires.place c.fail.ensures).acts

pub returns-clause-order : goal.returns-clause-order
returns-clause-order g c = (after_fail (g.M.Medium.view c.self.inside.medium) c.self.inside.max_transfer c.self.inside.write_protected c.self.inside.table _ _ c.args.tag c.args.completion c.fail.result
    c.self.view_is (g.met.M.Medium.whole c.self.inside.medium) c.self.invariant c.requires.bad c.requires.place c.fail.ensures).order

pub returns-clause-fails : goal.returns-clause-fails
returns-clause-fails g c = (after_fail (g.M.Medium.view c.self.inside.medium) c.self.inside.max_transfer c.self.inside.write_protected c.self.inside.table _ _ c.args.tag c.args.completion c.fail.result
    c.self.view_is (g.met.M.Medium.whole c.self.inside.medium) c.self.invariant c.requires.bad c.requires.place c.fail.ensures).fails
