use Rattle.std.proofs.Common.{IsOk, subst}
use Rattle.adapter.specs.View.{IsReserved, ReservesMore, ReservesNear}
use Rattle.miniport.specs.Apart.{apart}
use Rattle.miniport.specs.Memory.{MemView}
use Rattle.miniport.proofs.Unfaithful.{reserves_apart}
use Rattle.miniport.proofs.booked.BookedAdapterAdapter.reserve.Goals as goal

pub returns-clause-reserves : goal.returns-clause-reserves
returns-clause-reserves c = subst (λ (v : MemView). ReservesMore (apart v.shown) (apart c.reserve.new.self.shown)) c.self.view_is
    (reserves_apart c.self.inside.inner.shown c.reserve.new.self.shown c.reserve.ensures.reserves)

pub returns-clause-near : goal.returns-clause-near
returns-clause-near c = subst (λ (v : MemView). ReservesNear (apart v.shown) c.args.extent (apart c.reserve.new.self.shown)) c.self.view_is c.reserve.ensures.near

pub returns-clause-ready : goal.returns-clause-ready
returns-clause-ready c = subst (λ (v : MemView). IsReserved (apart v.shown) c.args.extent → IsOk c.reserve.result) c.self.view_is c.reserve.ensures.ready
