use Rattle.partition.proofs.Hand.{books_shown}
use Rattle.partition.proofs.layer.PartitionsDevice.book.Goals as goal

pub invariant_of-self : goal.invariant_of-self
invariant_of-self g c = (books_shown _ _ _ _ _ c.self.invariant c.shows_order.ensures.order c.args.tag c.args.piece _ c.book.ensures.books).1

pub returns : goal.returns
returns g c = rw (← c.self.view_is) (record { books = (books_shown _ _ _ _ _ c.self.invariant c.shows_order.ensures.order c.args.tag c.args.piece _ c.book.ensures.books).0 })
