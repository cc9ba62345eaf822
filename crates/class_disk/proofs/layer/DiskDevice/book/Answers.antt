use Rattle.class_disk.specs.inside.TableView.{books_of}
use Rattle.class_disk.proofs.Acting.{books_above}
use Rattle.class_disk.proofs.layer.DiskDevice.book.Goals as goal

pub invariant_of-self : goal.invariant_of-self
invariant_of-self g c = record {
  takes = c.self.invariant.takes;
  in_hand = (books_above _ (books_of c.self.inside.extension.table) c.self.invariant.in_hand _ c.args.tag c.args.piece _ c.book.ensures.books c.shows_order.ensures.order).1;
}

pub returns : goal.returns
returns g c = rw (← c.self.view_is) (record {
  books = (books_above _ (books_of c.self.inside.extension.table) c.self.invariant.in_hand _ c.args.tag c.args.piece _ c.book.ensures.books c.shows_order.ensures.order).0;
})
