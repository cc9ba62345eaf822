use Rattle.hold_filter.proofs.Passing.{books}
use Rattle.hold_filter.proofs.layer.FilterDevice.book.Goals as goal

pub invariant_of-self : goal.invariant_of-self
invariant_of-self g c =
    record {
      buffers = c.self.invariant.buffers;
      in_hand =
          (books _ _ _ _ c.self.invariant.in_hand c.shows_order.ensures.order c.args.tag c.args.piece _
          c.book.ensures.books).0;
    }

pub returns : goal.returns
returns g c = rw (← c.self.view_is)
    (record {
      books = (books _ _ _ _ c.self.invariant.in_hand c.shows_order.ensures.order c.args.tag c.args.piece _
          c.book.ensures.books).1;
    })
