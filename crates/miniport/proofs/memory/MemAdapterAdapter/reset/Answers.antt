use Rattle.miniport.proofs.Serving.{after_reset}
use Rattle.miniport.proofs.memory.MemAdapterAdapter.reset.Goals as goal

pub invariant_of-self : goal.invariant_of-self
invariant_of-self g c = (after_reset (g.M.Medium.view c.self.inside.medium) c.self.inside.max_transfer c.self.inside.write_protected c.self.inside.table _ _ c.self.view_is c.reset.ensures
    (g.met.M.Medium.whole c.self.inside.medium) c.self.invariant c.requires).kept

pub returns-clause-resets : goal.returns-clause-resets
returns-clause-resets g c = (after_reset (g.M.Medium.view c.self.inside.medium) c.self.inside.max_transfer c.self.inside.write_protected c.self.inside.table _ _ c.self.view_is c.reset.ensures
    (g.met.M.Medium.whole c.self.inside.medium) c.self.invariant c.requires).shown

pub returns-clause-order : goal.returns-clause-order
returns-clause-order g c = (after_reset (g.M.Medium.view c.self.inside.medium) c.self.inside.max_transfer c.self.inside.write_protected c.self.inside.table _ _ c.self.view_is c.reset.ensures
    (g.met.M.Medium.whole c.self.inside.medium) c.self.invariant c.requires).order

pub returns-clause-due : goal.returns-clause-due
returns-clause-due g c = (after_reset (g.M.Medium.view c.self.inside.medium) c.self.inside.max_transfer c.self.inside.write_protected c.self.inside.table _ _ c.self.view_is c.reset.ensures
    (g.met.M.Medium.whole c.self.inside.medium) c.self.invariant c.requires).due
