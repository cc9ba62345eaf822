use Rattle.class_disk.proofs.Common.{[], refl, ap, Table, books_of}
use Rattle.class_disk.proofs.Standing.{rising, apart_in}
use Rattle.class_disk.proofs.CancellingAt.{none_at, still_open, midway_at, hand_at, cancels_at}
use Rattle.class_disk.proofs.layer.DiskDevice.cancel_at.Goals as goal

pub returns-then-not-cancel : goal.returns-then-not-cancel
returns-then-not-cancel g c = rw (← c.self.view_is) (record {
  cancels = none_at _ (books_of c.self.inside.extension.table) c.self.invariant.in_hand (rising 0 c.self.inside.extension.table.slots.slots) c.args.spot c.args.number (books_of c.cancel.new.self) c.if-not-cancel.ensures;
})

pub cancel_parts-requires : goal.cancel_parts-requires
cancel_parts-requires g c =
    still_open (g.D.Shown.view c.self.inside.extension.device) (books_of c.self.inside.extension.table) (rising 0 c.self.inside.extension.table.slots.slots) c.args.spot c.args.number (books_of c.cancel.new.self) c.if-not-cancel.ensures

pub take_all-requires-clause-midway : goal.take_all-requires-clause-midway
take_all-requires-clause-midway g c =
    let m = midway_at (g.D.Shown.view c.self.inside.extension.device) (books_of c.self.inside.extension.table) (rising 0 c.self.inside.extension.table.slots.slots) c.args.spot c.args.number (books_of c.cancel.new.self) c.if-not-cancel.ensures
    c.self.invariant.in_hand _ c.cancel_parts.ensures.order c.cancel_parts.ensures.cancels (books_of c.cancel_parts.new.self.table) (ap (λ (t : Table). books_of t) c.cancel_parts.ensures.table) in
    (m.0, [], m.1)

pub invariant_of-self-2 : goal.invariant_of-self-2
invariant_of-self-2 g c = record {
  takes = c.self.invariant.takes;
  in_hand = hand_at (g.D.Shown.view c.self.inside.extension.device) (books_of c.self.inside.extension.table) (rising 0 c.self.inside.extension.table.slots.slots) c.args.spot c.args.number (books_of c.cancel.new.self) c.if-not-cancel.ensures
      c.self.invariant.in_hand _ c.cancel_parts.ensures.order c.cancel_parts.ensures.cancels (books_of c.cancel_parts.new.self.table) (ap (λ (t : Table). books_of t) c.cancel_parts.ensures.table)
      _ (books_of c.take_all.new.self.table) c.take_all.ensures (apart_in _ c.take_all.new.self.table.slots.slots refl refl);
}

pub returns : goal.returns
returns g c = rw (← c.self.view_is) (record {
  cancels = cancels_at (g.D.Shown.view c.self.inside.extension.device) (books_of c.self.inside.extension.table) (rising 0 c.self.inside.extension.table.slots.slots) c.args.spot c.args.number (books_of c.cancel.new.self) c.if-not-cancel.ensures
      c.self.invariant.in_hand _ c.cancel_parts.ensures.order c.cancel_parts.ensures.cancels (books_of c.cancel_parts.new.self.table) (ap (λ (t : Table). books_of t) c.cancel_parts.ensures.table)
      _ (books_of c.take_all.new.self.table) c.take_all.ensures (apart_in _ c.take_all.new.self.table.slots.slots refl refl);
})
