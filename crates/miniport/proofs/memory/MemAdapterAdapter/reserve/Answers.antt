use Rattle.std.proofs.Common.{rules}
use Rattle.miniport.proofs.Serving.{after_reserve, near_seen, reserved_below}
use Rattle.miniport.proofs.memory.MemAdapterAdapter.reserve.Goals as goal

pub invariant_of-self : goal.invariant_of-self
invariant_of-self g c = (after_reserve (g.M.Medium.view c.self.inside.medium) _ c.self.inside.max_transfer c.self.inside.write_protected c.self.inside.table _ c.self.view_is c.reserve.ensures.reserves
    (g.met.M.Medium.whole c.self.inside.medium) c.self.invariant).kept

pub returns-clause-reserves : goal.returns-clause-reserves
returns-clause-reserves g c = (after_reserve (g.M.Medium.view c.self.inside.medium) _ c.self.inside.max_transfer c.self.inside.write_protected c.self.inside.table _ c.self.view_is c.reserve.ensures.reserves
    (g.met.M.Medium.whole c.self.inside.medium) c.self.invariant).shown

pub returns-clause-order : goal.returns-clause-order
returns-clause-order g c = (after_reserve (g.M.Medium.view c.self.inside.medium) _ c.self.inside.max_transfer c.self.inside.write_protected c.self.inside.table _ c.self.view_is c.reserve.ensures.reserves
    (g.met.M.Medium.whole c.self.inside.medium) c.self.invariant).order

pub returns-clause-near : goal.returns-clause-near
returns-clause-near g c = near_seen (g.M.Medium.view c.self.inside.medium) (g.M.Medium.view c.reserve.new.self) c.self.inside.max_transfer c.self.inside.write_protected c.self.inside.table _ c.args.extent c.self.view_is c.reserve.ensures.near

pub returns-clause-ready : goal.returns-clause-ready
returns-clause-ready g c = λ reserved.
    let ready = c.reserve.ensures.ready (reserved_below (g.M.Medium.view c.self.inside.medium) c.self.inside.max_transfer c.self.inside.write_protected c.self.inside.table _ c.args.extent c.self.view_is reserved) in
    search rules
