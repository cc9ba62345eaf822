use Rattle.std.proofs.Common.{IsOk, subst}
use Rattle.adapter.specs.View.{IsReserved, ReservesNear}
use Rattle.miniport.specs.Planned.{PlannedView}
use Rattle.miniport.proofs.planned.PlannedAdapterAdapter.reserve.Goals as goal

pub returns-clause-ready : goal.returns-clause-ready
returns-clause-ready g c = subst (λ (v : PlannedView). IsReserved v.inner.shown c.args.extent → IsOk c.reserve.result) c.self.view_is c.reserve.ensures.ready

pub returns-clause-near : goal.returns-clause-near
returns-clause-near g c = subst (λ (v : PlannedView). ReservesNear v.inner.shown c.args.extent c.reserve.new.self.shown) c.self.view_is c.reserve.ensures.near
