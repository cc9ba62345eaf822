use Rattle.class_disk.proofs.Common.{[], refl, books_of}
use Rattle.class_disk.proofs.Standing.{apart_in}
use Rattle.class_disk.proofs.Draining.{midway_drained, hand_drained, drains_above}
use Rattle.class_disk.proofs.layer.DiskDevice.drain.Goals as goal

pub take_all-requires-clause-midway : goal.take_all-requires-clause-midway
take_all-requires-clause-midway g c =
    (_, [], midway_drained _ (books_of c.self.inside.extension.table) c.self.invariant.in_hand _ c.drain.ensures.drains c.shows_order.ensures.order)

pub invariant_of-self : goal.invariant_of-self
invariant_of-self g c = record {
  takes = c.self.invariant.takes;
  in_hand = hand_drained _ (books_of c.self.inside.extension.table) c.self.invariant.in_hand _ c.drain.ensures.drains c.shows_order.ensures.order
      _ (books_of c.take_all.new.self.table) c.take_all.ensures (apart_in _ c.take_all.new.self.table.slots.slots refl refl);
}

pub returns : goal.returns
returns g c = rw (← c.self.view_is) (record {
  drains = drains_above _ (books_of c.self.inside.extension.table) c.self.invariant.in_hand _ c.drain.ensures.drains c.shows_order.ensures.order
      _ (books_of c.take_all.new.self.table) c.take_all.ensures (apart_in _ c.take_all.new.self.table.slots.slots refl refl);
})
