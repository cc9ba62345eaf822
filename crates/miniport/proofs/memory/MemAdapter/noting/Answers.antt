use Rattle.miniport.proofs.Keeping.{noting_kept}
use Rattle.miniport.proofs.memory.MemAdapter.noting.Goals as goal

pub invariant_of-self : goal.invariant_of-self
invariant_of-self g c = noting_kept _ _ _ _ c.note_bytes.ensures c.self.invariant
