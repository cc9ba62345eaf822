use Rattle.miniport.proofs.Keeping.{in_order}
use Rattle.miniport.proofs.Serving.{labels_forgotten}
use Rattle.miniport.proofs.memory.MemAdapterAdapter.forget_labels.Goals as goal

pub invariant_of-self : goal.invariant_of-self
invariant_of-self g c = labels_forgotten _ _ _ _ c.forget_labels.ensures c.self.invariant

pub returns-clause-order : goal.returns-clause-order
returns-clause-order g c = in_order _ _ _ (g.met.M.Medium.whole c.self.inside.medium) (labels_forgotten _ _ _ _ c.forget_labels.ensures c.self.invariant)
