use Rattle.class_disk.proofs.Common.{◌+◌, ◌≤◌, sym, subst, DeviceView, label_places, books_of}
use Rattle.class_disk.proofs.Acting.{label_place, either_acts}
use Rattle.class_disk.proofs.layer.DiskDevice.act.Goals as goal

pub act-acted-requires : goal.act-acted-requires
act-acted-requires g c = record {
  label_place = label_place _ (books_of c.self.inside.extension.table) c.self.invariant.in_hand 1 (subst (λ (x : DeviceView). label_places x + 1 ≤ 64) (sym c.self.view_is) c.requires.label_place);
}

pub invariant_of-self : goal.invariant_of-self
invariant_of-self g c = record {
  takes = c.self.invariant.takes;
  in_hand = (either_acts _ (books_of c.self.inside.extension.table) c.self.invariant.in_hand c.args.tag _ c.act-acted.result c.act-acted.ensures.acts c.shows_order.ensures.order).1;
}

pub returns : goal.returns
returns g c = rw (← c.self.view_is) (record {
  acts = (either_acts _ (books_of c.self.inside.extension.table) c.self.invariant.in_hand c.args.tag _ c.act-acted.result c.act-acted.ensures.acts c.shows_order.ensures.order).0;
})
