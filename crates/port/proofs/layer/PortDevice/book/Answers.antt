use Rattle.port.specs.inside.TableView.{books_of}
use Rattle.port.specs.Shown.{reserved_of}
use Rattle.port.proofs.Booking.{booked_all}
use Rattle.port.proofs.Seeing.{shown_is}
use Rattle.port.proofs.layer.PortDevice.book.Goals as goal

pub invariant_of-self : goal.invariant_of-self
invariant_of-self g c =
    (booked_all (books_of c.self.inside.parts.queues) (g.A.Adapter.view c.self.inside.parts.adapter) (g.A.Adapter.view c.book.new.self) c.args.tag c.args.piece _ _ c.self.invariant c.book.ensures.books c.book.ensures.order).rooms
    (reserved_of (books_of c.self.inside.parts.queues).rooms) c.self.invariant

pub returns : goal.returns
returns g c =
    rw (← shown_is c.self.view_is) (record { books = (booked_all (books_of c.self.inside.parts.queues) (g.A.Adapter.view c.self.inside.parts.adapter) (g.A.Adapter.view c.book.new.self) c.args.tag c.args.piece _ _ c.self.invariant c.book.ensures.books c.book.ensures.order).books })
