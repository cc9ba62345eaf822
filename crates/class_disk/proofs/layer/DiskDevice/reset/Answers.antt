use Rattle.class_disk.proofs.Common.{◌+◌, ◌≤◌, sym, subst, DeviceView, label_places, books_of}
use Rattle.class_disk.proofs.Acting.{label_place}
use Rattle.class_disk.proofs.Resetting.{resets_above}
use Rattle.class_disk.proofs.layer.DiskDevice.reset.Goals as goal

pub reset-requires : goal.reset-requires
reset-requires g c = record {
  label_place = label_place _ (books_of c.self.inside.extension.table) c.self.invariant.in_hand _ (subst (λ (x : DeviceView). label_places x + x.rules.depth ≤ 64) (sym c.self.view_is) c.requires.label_place);
}

pub invariant_of-self : goal.invariant_of-self
invariant_of-self g c = record {
  takes = c.self.invariant.takes;
  in_hand = (resets_above _ (books_of c.self.inside.extension.table) c.self.invariant.in_hand _ c.reset.ensures.resets c.shows_order.ensures.order).1;
}

pub returns : goal.returns
returns g c = rw (← c.self.view_is) (record {
  resets = (resets_above _ (books_of c.self.inside.extension.table) c.self.invariant.in_hand _ c.reset.ensures.resets c.shows_order.ensures.order).0;
})
