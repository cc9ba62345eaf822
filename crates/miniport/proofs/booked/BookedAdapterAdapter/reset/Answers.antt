use Rattle.std.proofs.Common.{subst}
use Rattle.adapter.specs.Calls.{Resets}
use Rattle.miniport.specs.Apart.{apart}
use Rattle.miniport.specs.Memory.{MemView}
use Rattle.miniport.proofs.Unfaithful.{resets_apart}
use Rattle.miniport.proofs.booked.BookedAdapterAdapter.reset.Goals as goal

pub returns-clause-resets : goal.returns-clause-resets
returns-clause-resets c = subst (λ (v : MemView). Resets (apart v.shown) (apart c.reset.new.self.shown)) c.self.view_is
    (resets_apart c.self.inside.inner.shown c.reset.new.self.shown c.reset.ensures.resets)
