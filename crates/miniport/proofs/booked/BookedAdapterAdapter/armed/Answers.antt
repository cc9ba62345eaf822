use Rattle.std.proofs.Common.{MatchOption, subst}
use Rattle.adapter.specs.Calls.{HasNoneFresh}
use Rattle.adapter.specs.Booking.{IsArmed}
use Rattle.miniport.specs.Apart.{apart}
use Rattle.miniport.specs.Memory.{MemView}
use Rattle.miniport.proofs.Unfaithful.{armed_apart}
use Rattle.miniport.proofs.booked.BookedAdapterAdapter.armed.Goals as goal

pub returns-clause-exact : goal.returns-clause-exact
returns-clause-exact c = subst (λ (v : MemView). MatchOption c.armed.result (HasNoneFresh (apart v.shown) c.args.tag) (λ found. IsArmed (apart v.shown) c.args.tag found.0 found.1.now)) c.self.view_is
    (armed_apart c.self.inside.inner.shown c.args.tag c.armed.result c.armed.ensures.exact)
