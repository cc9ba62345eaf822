use Rattle.miniport.proofs.Booking.{books_none}
use Rattle.miniport.proofs.Serving.{order_seen}
use Rattle.miniport.proofs.memory.MemAdapterAdapter.book.Goals as goal

pub returns-clause-books : goal.returns-clause-books
returns-clause-books g c = books_none (g.M.Medium.view c.self.inside.medium) c.self.inside.max_transfer c.self.inside.write_protected c.self.inside.table _ c.args.tag c.args.piece _ c.self.view_is

pub returns-clause-order : goal.returns-clause-order
returns-clause-order g c = order_seen _ _ _ _ _ c.self.view_is (g.met.M.Medium.whole c.self.inside.medium) c.self.invariant
