use Rattle.std.proofs.Common.{subst, sym}
use Rattle.adapter.specs.View.{IsWritable}
use Rattle.miniport.specs.Memory.{MemView}
use Rattle.miniport.proofs.booked.BookedAdapterAdapter.accept.Goals as goal

pub accept-requires-clause-writable : goal.accept-requires-clause-writable
accept-requires-clause-writable c = subst (λ (v : MemView). IsWritable v.shown c.args.srb) (sym c.self.view_is) c.requires.writable
