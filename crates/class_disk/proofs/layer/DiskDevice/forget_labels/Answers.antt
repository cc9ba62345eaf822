use Rattle.class_disk.specs.inside.TableView.{books_of}
use Rattle.class_disk.proofs.Acting.{forgets_above}
use Rattle.class_disk.proofs.layer.DiskDevice.forget_labels.Goals as goal

pub invariant_of-self : goal.invariant_of-self
invariant_of-self g c = record {
  takes = c.self.invariant.takes;
  in_hand = (forgets_above _ (books_of c.self.inside.extension.table) c.self.invariant.in_hand _ c.forget_labels.ensures.forgets c.shows_order.ensures.order).1;
}

pub returns : goal.returns
returns g c = rw (← c.self.view_is) (record {
  forgets = (forgets_above _ (books_of c.self.inside.extension.table) c.self.invariant.in_hand _ c.forget_labels.ensures.forgets c.shows_order.ensures.order).0;
})
