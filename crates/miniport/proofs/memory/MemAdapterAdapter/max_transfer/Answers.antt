use Rattle.miniport.proofs.Serving.{order_seen}
use Rattle.miniport.proofs.memory.MemAdapterAdapter.max_transfer.Goals as goal

pub returns-clause-order : goal.returns-clause-order
returns-clause-order g c = order_seen _ _ _ _ _ c.self.view_is (g.met.M.Medium.whole c.self.inside.medium) c.self.invariant
