use Rattle.class_disk.specs.inside.TableView.{books_of}
use Rattle.class_disk.proofs.Acting.{takes_above}
use Rattle.class_disk.proofs.layer.DiskDevice.take_label.Goals as goal

pub invariant_of-self : goal.invariant_of-self
invariant_of-self g c = record {
  takes = c.self.invariant.takes;
  in_hand = (takes_above _ (books_of c.self.inside.extension.table) c.self.invariant.in_hand _ c.take_label-label.result c.take_label-label.ensures.takes c.shows_order.ensures.order).1;
}

pub returns : goal.returns
returns g c = rw (← c.self.view_is) (record {
  takes = (takes_above _ (books_of c.self.inside.extension.table) c.self.invariant.in_hand _ c.take_label-label.result c.take_label-label.ensures.takes c.shows_order.ensures.order).0;
})
