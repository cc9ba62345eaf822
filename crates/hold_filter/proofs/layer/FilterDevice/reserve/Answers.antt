use Rattle.hold_filter.proofs.Common.{ap, DeviceView, near_after, FilterView, books_of}
use Rattle.hold_filter.proofs.Calls.{bounds, near_above, refused_below, reserved, given_back}
use Rattle.hold_filter.proofs.layer.FilterDevice.reserve.Goals as goal

pub reserve-requires : goal.reserve-requires
reserve-requires g c =
    record {
      bounded = bounds (g.D.Shown.view c.self.inside.parts.device) (books_of c.self.inside.parts.table) _
          c.args.request.now (ap (λ (f : FilterView). f.shown) c.self.view_is) c.requires.bounded;
    }

pub invariant_of-self : goal.invariant_of-self
invariant_of-self g c =
    record {
      buffers = c.self.invariant.buffers;
      in_hand =
          (refused_below _ _ _ c.self.invariant.in_hand _ (ap (λ (f : FilterView). f.shown) c.self.view_is) _
          c.shows_order.ensures.order c.in_default.ensures.refused).0;
    }

pub returns-in_default-clause-refused : goal.returns-in_default-clause-refused
returns-in_default-clause-refused g c =
    (refused_below _ _ _ c.self.invariant.in_hand _ (ap (λ (f : FilterView). f.shown) c.self.view_is) _
    c.shows_order.ensures.order c.in_default.ensures.refused).1

pub invariant_of-self-in_default-cover : goal.invariant_of-self-in_default-cover
invariant_of-self-in_default-cover g c =
    record {
      buffers = c.self.invariant.buffers;
      in_hand =
          (given_back _ _ _ c.self.invariant.in_hand _ (ap (λ (f : FilterView). f.shown) c.self.view_is)
          c.in-Ok.reserved.spot
          c.args.request.now _ c.requires.bounded c.in-Ok.ensures.reserved (books_of c.cover.new.self)
          c.cover.ensures.places
          _ c.shows_order-in_default-cover.ensures.order c.free.ensures.frees).0;
    }

pub returns-in_default-cover-clause-refused : goal.returns-in_default-cover-clause-refused
returns-in_default-cover-clause-refused g c =
    (given_back _ _ _ c.self.invariant.in_hand _ (ap (λ (f : FilterView). f.shown) c.self.view_is)
    c.in-Ok.reserved.spot
    c.args.request.now _ c.requires.bounded c.in-Ok.ensures.reserved (books_of c.cover.new.self)
    c.cover.ensures.places
    _ c.shows_order-in_default-cover.ensures.order c.free.ensures.frees).1

pub invariant_of-self-in-Ok-cover : goal.invariant_of-self-in-Ok-cover
invariant_of-self-in-Ok-cover g c =
    record {
      buffers = c.self.invariant.buffers;
      in_hand =
          (reserved _ _ _ c.self.invariant.in_hand _ (ap (λ (f : FilterView). f.shown) c.self.view_is)
          c.in-Ok.reserved.spot
          c.args.request.now _ c.requires.bounded c.in-Ok.ensures.reserved (books_of c.cover.new.self)
          c.cover.ensures.places
          c.shows_order-2.ensures.order c.in-Ok-cover.ensures.covers).0;
    }

pub returns-clause-reserved : goal.returns-clause-reserved
returns-clause-reserved g c =
    (reserved _ _ _ c.self.invariant.in_hand _ (ap (λ (f : FilterView). f.shown) c.self.view_is)
    c.in-Ok.reserved.spot
    c.args.request.now _ c.requires.bounded c.in-Ok.ensures.reserved (books_of c.cover.new.self)
    c.cover.ensures.places
    c.shows_order-2.ensures.order c.in-Ok-cover.ensures.covers).1

pub returns-in_default-clause-near : goal.returns-in_default-clause-near
returns-in_default-clause-near g c =
    near_above (g.D.Shown.view c.self.inside.parts.device) (g.D.Shown.view c.reserve.new.self)
    (books_of c.self.inside.parts.table) (books_of c.self.inside.parts.table) _ c.args.request.now
    (ap (λ (f : FilterView). f.shown) c.self.view_is) c.reserve.ensures.near

pub returns-in_default-cover-clause-near : goal.returns-in_default-cover-clause-near
returns-in_default-cover-clause-near g c =
    near_above (g.D.Shown.view c.self.inside.parts.device) (g.D.Shown.view c.free.new.self)
    (books_of c.self.inside.parts.table) (books_of c.cover.new.self) _ c.args.request.now
    (ap (λ (f : FilterView). f.shown) c.self.view_is)
    (near_after (g.D.Shown.view c.self.inside.parts.device) (g.D.Shown.view c.reserve.new.self) (g.D.Shown.view c.free.new.self)
    c.args.request.now (ap (λ (x : DeviceView). x.adapter) c.free.ensures.frees.same) c.reserve.ensures.near)

pub returns-clause-near : goal.returns-clause-near
returns-clause-near g c =
    near_above (g.D.Shown.view c.self.inside.parts.device) (g.D.Shown.view c.reserve.new.self)
    (books_of c.self.inside.parts.table) (books_of c.cover.new.self) _ c.args.request.now
    (ap (λ (f : FilterView). f.shown) c.self.view_is) c.reserve.ensures.near
