use Rattle.std.proofs.Common.{subst, sym}
use Rattle.adapter.specs.View.{IsWritable}
use Rattle.miniport.specs.Planned.{PlannedView}
use Rattle.miniport.proofs.planned.PlannedAdapterAdapter.accept.Goals as goal

pub accept-requires-clause-writable : goal.accept-requires-clause-writable
accept-requires-clause-writable g c = subst (λ (v : PlannedView). IsWritable v.inner.shown c.args.srb) (sym c.self.view_is) c.requires.writable
