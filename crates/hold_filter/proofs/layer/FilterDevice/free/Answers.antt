use Rattle.hold_filter.proofs.Common.{ap, books_of, FilterView}
use Rattle.hold_filter.proofs.Calls.{reserved_below, freed}
use Rattle.hold_filter.proofs.layer.FilterDevice.free.Goals as goal

pub free-requires : goal.free-requires
free-requires g c = record {
  reserved = reserved_below (g.D.Shown.view c.self.inside.parts.device) (books_of c.self.inside.parts.table) _
      c.args.room.spot (ap (λ (f : FilterView). f.shown) c.self.view_is) c.requires.reserved;
}

pub invariant_of-self : goal.invariant_of-self
invariant_of-self g c =
    record {
      buffers = c.self.invariant.buffers;
      in_hand =
          (freed _ _ _ _ _ c.args.room.spot (ap (λ (f : FilterView). f.shown) c.self.view_is) c.requires.reserved
          c.self.invariant.in_hand c.shows_order.ensures.order c.free.ensures.frees).0;
    }

pub returns : goal.returns
returns g c = record {
  frees = (freed _ _ _ _ _ c.args.room.spot (ap (λ (f : FilterView). f.shown) c.self.view_is) c.requires.reserved
      c.self.invariant.in_hand c.shows_order.ensures.order c.free.ensures.frees).1;
}
