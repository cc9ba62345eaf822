use Rattle.std.proofs.Common.{ap}
use Rattle.miniport.specs.Memory.{MemView}
use Rattle.miniport.proofs.memory.MemAdapterAdapter.is_faithful.Goals as goal

pub returns : goal.returns
returns g c = ap (λ (v : MemView). v.shown.faithful) c.self.view_is
