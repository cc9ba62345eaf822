-- The slot is given up, and the parts' rooms go back below.
use Rattle.class_disk.proofs.Common.{refl, sym, subst, DeviceView, IsReserved, Table, books_of, tickets, view_of, IsInHand, Frees}
use Rattle.class_disk.proofs.Standing.{apart_in}
use Rattle.class_disk.proofs.Reserving.{freed_first, freed_here, frees_above, in_hand_freed}
use Rattle.class_disk.proofs.layer.DiskDevice.free.Goals as goal

pub give_up-places-requires : goal.give_up-places-requires
give_up-places-requires g c = subst (λ (x : DeviceView). IsReserved x.rooms c.args.room.spot) (sym c.self.view_is) c.requires.reserved

pub free_parts-requires-clause-out : goal.free_parts-requires-clause-out
free_parts-requires-clause-out g c =
    (tickets (books_of c.give_up-places.new.self), freed_first _ (books_of c.self.inside.extension.table) (books_of c.give_up-places.new.self) c.args.room.spot c.give_up-places.result c.give_up-places.ensures c.self.invariant.in_hand.rooms_out)

pub free_parts-requires-clause-here : goal.free_parts-requires-clause-here
free_parts-requires-clause-here g c = freed_here _ (books_of c.self.inside.extension.table) (books_of c.give_up-places.new.self) c.args.room.spot c.give_up-places.result c.give_up-places.ensures c.self.invariant.in_hand.kept

pub invariant_of-self : goal.invariant_of-self
invariant_of-self g c = record {
  takes = c.self.invariant.takes;
  in_hand =
      subst (λ (t : Table). IsInHand (g.D.Shown.view c.free_parts.new.self.device) (books_of t)) (sym c.free_parts.ensures.table)
      (in_hand_freed (g.D.Shown.view c.self.inside.extension.device) _ (books_of c.self.inside.extension.table) (books_of c.give_up-places.new.self) c.args.room.spot c.give_up-places.result c.free_parts.ensures.same c.give_up-places.ensures
      (apart_in _ c.give_up-places.new.self.slots.slots refl refl)
      (c.free_parts.ensures.out _ (freed_first _ (books_of c.self.inside.extension.table) (books_of c.give_up-places.new.self) c.args.room.spot c.give_up-places.result c.give_up-places.ensures c.self.invariant.in_hand.rooms_out))
      c.self.invariant.in_hand);
}

pub returns : goal.returns
returns g c = rw (← c.self.view_is) (record {
  frees = subst (λ (t : Table). Frees (view_of (g.D.Shown.view c.self.inside.extension.device) (books_of c.self.inside.extension.table)) c.args.room.spot (view_of (g.D.Shown.view c.free_parts.new.self.device) (books_of t))) (sym c.free_parts.ensures.table)
      (frees_above (g.D.Shown.view c.self.inside.extension.device) _ (books_of c.self.inside.extension.table) (books_of c.give_up-places.new.self) c.args.room.spot c.give_up-places.result c.free_parts.ensures.same c.give_up-places.ensures);
})
