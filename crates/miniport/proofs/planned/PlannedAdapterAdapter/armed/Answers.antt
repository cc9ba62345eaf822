use Rattle.std.proofs.Common.{MatchOption, subst}
use Rattle.adapter.specs.Calls.{HasNoneFresh}
use Rattle.adapter.specs.Booking.{IsArmed}
use Rattle.miniport.specs.Planned.{PlannedView}
use Rattle.miniport.proofs.planned.PlannedAdapterAdapter.armed.Goals as goal

pub returns-clause-exact : goal.returns-clause-exact
returns-clause-exact g c = subst (λ (v : PlannedView). MatchOption c.armed.result (HasNoneFresh v.inner.shown c.args.tag) (λ found. IsArmed v.inner.shown c.args.tag found.0 found.1.now)) c.self.view_is c.armed.ensures.exact
