use Rattle.io_manager.proofs.Common.{sym, subst, HasNoRooms}
use Rattle.io_manager.proofs.Booking.{kept_booked}
use Rattle.io_manager.proofs.manager.IoManager.book.Goals as goal

pub invariant_of-self : goal.invariant_of-self
invariant_of-self g c = record {
  takes_buffers = c.self.invariant.takes_buffers;
  locations = c.self.invariant.locations;
  vacant = subst HasNoRooms (sym c.book.ensures.books.same) c.self.invariant.vacant;
  kept = kept_booked c.self.inside.parts.limits (g.D.Shown.view c.self.inside.parts.device) (g.D.Shown.view c.book.new.self) c.self.inside.parts.tables c.args.tag c.args.piece _ c.self.invariant.kept c.book.ensures.books;
}
