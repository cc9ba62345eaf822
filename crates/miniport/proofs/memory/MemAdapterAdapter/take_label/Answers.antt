use Rattle.miniport.proofs.Keeping.{in_order}
use Rattle.miniport.proofs.Serving.{label_taken}
use Rattle.miniport.proofs.memory.MemAdapterAdapter.take_label.Goals as goal

pub invariant_of-self : goal.invariant_of-self
invariant_of-self g c = label_taken _ _ _ _ c.take_label.result c.take_label.ensures c.self.invariant

pub returns-clause-order : goal.returns-clause-order
returns-clause-order g c = in_order _ _ _ (g.met.M.Medium.whole c.self.inside.medium) (label_taken _ _ _ _ c.take_label.result c.take_label.ensures c.self.invariant)
