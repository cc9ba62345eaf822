use Rattle.miniport.proofs.Serving.{after_accept, free_slot}
use Rattle.miniport.proofs.memory.MemAdapterAdapter.accept.Goals as goal

pub accept-requires-clause-free : goal.accept-requires-clause-free
accept-requires-clause-free g c =
    free_slot (g.M.Medium.view c.self.inside.medium) c.self.inside.max_transfer c.self.inside.write_protected c.self.inside.table _ c.args.tag c.self.view_is c.requires.free

pub invariant_of-self : goal.invariant_of-self
invariant_of-self g c = (after_accept (g.M.Medium.view c.self.inside.medium) c.self.inside.max_transfer c.self.inside.write_protected c.self.inside.table _ _ c.args.tag c.args.piece c.args.srb c.self.view_is c.accept.ensures
    (g.met.M.Medium.whole c.self.inside.medium) c.self.invariant
    (record { below = c.requires.below; free = c.requires.free; writable = c.requires.writable; buffers = c.requires.buffers; few = c.requires.few; place = c.requires.place })).kept

pub returns-clause-accepts : goal.returns-clause-accepts
returns-clause-accepts g c = (after_accept (g.M.Medium.view c.self.inside.medium) c.self.inside.max_transfer c.self.inside.write_protected c.self.inside.table _ _ c.args.tag c.args.piece c.args.srb c.self.view_is c.accept.ensures
    (g.met.M.Medium.whole c.self.inside.medium) c.self.invariant
    (record { below = c.requires.below; free = c.requires.free; writable = c.requires.writable; buffers = c.requires.buffers; few = c.requires.few; place = c.requires.place })).shown

pub returns-clause-order : goal.returns-clause-order
returns-clause-order g c = (after_accept (g.M.Medium.view c.self.inside.medium) c.self.inside.max_transfer c.self.inside.write_protected c.self.inside.table _ _ c.args.tag c.args.piece c.args.srb c.self.view_is c.accept.ensures
    (g.met.M.Medium.whole c.self.inside.medium) c.self.invariant
    (record { below = c.requires.below; free = c.requires.free; writable = c.requires.writable; buffers = c.requires.buffers; few = c.requires.few; place = c.requires.place })).order

pub returns-clause-due : goal.returns-clause-due
returns-clause-due g c = (after_accept (g.M.Medium.view c.self.inside.medium) c.self.inside.max_transfer c.self.inside.write_protected c.self.inside.table _ _ c.args.tag c.args.piece c.args.srb c.self.view_is c.accept.ensures
    (g.met.M.Medium.whole c.self.inside.medium) c.self.invariant
    (record { below = c.requires.below; free = c.requires.free; writable = c.requires.writable; buffers = c.requires.buffers; few = c.requires.few; place = c.requires.place })).due
