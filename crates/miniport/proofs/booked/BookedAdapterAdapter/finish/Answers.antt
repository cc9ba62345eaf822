use Rattle.std.proofs.Common.{MatchOption, subst}
use Rattle.adapter.specs.Calls.{Finishes, FinishesNot}
use Rattle.miniport.specs.Apart.{apart}
use Rattle.miniport.specs.Memory.{MemView}
use Rattle.miniport.proofs.Unfaithful.{finish_apart}
use Rattle.miniport.proofs.booked.BookedAdapterAdapter.finish.Goals as goal

pub returns-clause-finishes : goal.returns-clause-finishes
returns-clause-finishes c =
    subst (λ (v : MemView). MatchOption c.finish.result (FinishesNot (apart v.shown) c.args.tag (apart c.finish.new.self.shown)) (λ back. Finishes (apart v.shown) c.args.tag back.0 back.1 (apart c.finish.new.self.shown))) c.self.view_is
    (finish_apart c.self.inside.inner.shown c.finish.new.self.shown c.args.tag c.finish.result c.finish.ensures.finishes)
