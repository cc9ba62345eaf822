-- The piece comes back below, and all that has ended is taken.
use Rattle.class_disk.proofs.Common.{◌+◌, ◌≤◌, refl, sym, subst, DeviceView, label_places, books_of}
use Rattle.class_disk.proofs.Acting.{label_place, hand_same}
use Rattle.class_disk.proofs.Standing.{apart_in}
use Rattle.class_disk.proofs.Finished.{free_above, midway_begins, finish_ends}
use Rattle.class_disk.proofs.layer.DiskDevice.finish.Goals as goal

pub finish-requires : goal.finish-requires
finish-requires g c = record {
  label_place = label_place _ (books_of c.self.inside.extension.table) c.self.invariant.in_hand 2 (subst (λ (x : DeviceView). label_places x + 2 ≤ 64) (sym c.self.view_is) c.requires.label_place);
}

pub invariant_of-self : goal.invariant_of-self
invariant_of-self g c = record {
  takes = c.self.invariant.takes;
  in_hand = hand_same _ (books_of c.self.inside.extension.table) c.self.invariant.in_hand _ c.if-not-finish.ensures.finishes.same;
}

pub returns-then-not-finish : goal.returns-then-not-finish
returns-then-not-finish g c = rw (← c.self.view_is) (record {
  finishes = free_above _ (books_of c.self.inside.extension.table) c.self.invariant.in_hand c.args.tag _ c.if-not-finish.ensures.finishes;
})

pub take_all-requires-clause-midway : goal.take_all-requires-clause-midway
take_all-requires-clause-midway g c =
    (_, _, midway_begins _ (books_of c.self.inside.extension.table) c.self.invariant.in_hand c.args.tag _ c.if-not-finish.ensures.finishes c.shows_order.ensures.order)

pub invariant_of-self-2 : goal.invariant_of-self-2
invariant_of-self-2 g c = record {
  takes = c.self.invariant.takes;
  in_hand = (finish_ends _ (books_of c.self.inside.extension.table) c.self.invariant.in_hand c.args.tag _ c.if-not-finish.ensures.finishes c.shows_order.ensures.order
      _ (books_of c.take_all.new.self.table) c.take_all.ensures (apart_in _ c.take_all.new.self.table.slots.slots refl refl)).1;
}

pub returns : goal.returns
returns g c = rw (← c.self.view_is) (record {
  finishes = (finish_ends _ (books_of c.self.inside.extension.table) c.self.invariant.in_hand c.args.tag _ c.if-not-finish.ensures.finishes c.shows_order.ensures.order
      _ (books_of c.take_all.new.self.table) c.take_all.ensures (apart_in _ c.take_all.new.self.table.slots.slots refl refl)).0;
})
