use Rattle.partition.proofs.Common.{rules, ◌≡◌, Err, ap, refl, sym, subst, Extent, DeviceView, IsBounded, near_after}
use Rattle.partition.proofs.Hand.{none_reserved, given_back, spot_reserved_as, near_up}
use Rattle.partition.proofs.Submitting.{bounded_down}
use Rattle.partition.proofs.layer.PartitionsDevice.reserve.Goals as goal

pub reserve-reserved-requires : goal.reserve-reserved-requires
reserve-reserved-requires g c = record {
  bounded = subst (λ (e : Extent). IsBounded (g.D.Shown.view c.self.inside.parts.device).rules (record { volume = 0; kind = c.args.request.now.kind; extent = e; through = c.args.request.now.through }))
      (sym c.extent_on_disk.ensures) (bounded_down _ _ c.args.request.now c.self.invariant.on_disk (subst (λ (x : DeviceView). IsBounded x.rules c.args.request.now) (sym c.self.view_is) c.requires.bounded));
}

pub invariant_of-self : goal.invariant_of-self
invariant_of-self g c =
    (none_reserved _ _ _ _ _ _ c.self.invariant c.in_err-room.ensures.refused c.shows_order.ensures.order (λ spot. refl)).1

pub returns-in_err-room-clause-refused : goal.returns-in_err-room-clause-refused
returns-in_err-room-clause-refused g c =
    let given : c.from_residual.result ≡ Err c.in_err-room.field-0.0 = search rules in
    rw given (rw (← c.self.view_is) (none_reserved _ _ _ _ _ _ c.self.invariant c.in_err-room.ensures.refused c.shows_order.ensures.order (λ spot. refl)).0)

pub invariant_of-self-in-Err : goal.invariant_of-self-in-Err
invariant_of-self-in-Err g c = (none_reserved _ _ _ _ _ _ c.self.invariant (given_back _ _ _ c.in_ok-room.room.spot _ c.in_ok-room.ensures.reserved c.free.ensures.frees) c.shows_order-in-Err.ensures.order c.in-Err.ensures.refused).1

pub returns-in-Err-clause-refused : goal.returns-in-Err-clause-refused
returns-in-Err-clause-refused g c = rw (← c.self.view_is) (none_reserved _ _ _ _ _ _ c.self.invariant (given_back _ _ _ c.in_ok-room.room.spot _ c.in_ok-room.ensures.reserved c.free.ensures.frees) c.shows_order-in-Err.ensures.order c.in-Err.ensures.refused).0

pub invariant_of-self-in_default : goal.invariant_of-self-in_default
invariant_of-self-in_default g c = (spot_reserved_as _ _ _ _ _ _ c.in_ok-room.room.spot c.args.request.now _ (ap (λ (e : Extent). record { volume = 0; kind = c.args.request.now.kind; extent = e; through = c.args.request.now.through }) c.extent_on_disk.ensures) c.self.invariant (subst (λ (x : DeviceView). IsBounded x.rules c.args.request.now) (sym c.self.view_is) c.requires.bounded) c.in_ok-room.ensures.reserved c.shows_order.ensures.order c.in_default.ensures.noted).1

pub returns-clause-reserved : goal.returns-clause-reserved
returns-clause-reserved g c = rw (← c.self.view_is) (spot_reserved_as _ _ _ _ _ _ c.in_ok-room.room.spot c.args.request.now _ (ap (λ (e : Extent). record { volume = 0; kind = c.args.request.now.kind; extent = e; through = c.args.request.now.through }) c.extent_on_disk.ensures) c.self.invariant (subst (λ (x : DeviceView). IsBounded x.rules c.args.request.now) (sym c.self.view_is) c.requires.bounded) c.in_ok-room.ensures.reserved c.shows_order.ensures.order c.in_default.ensures.noted).0

pub returns-in_err-room-clause-near : goal.returns-in_err-room-clause-near
returns-in_err-room-clause-near g c =
    rw (← c.self.view_is) (near_up c.self.inside.parts.table.items (g.D.Shown.view c.self.inside.parts.device) (g.D.Shown.view c.reserve-reserved.new.self) c.args.request.now _ c.self.invariant.on_disk.whole
    (ap (λ (e : Extent). record { volume = 0; kind = c.args.request.now.kind; extent = e; through = c.args.request.now.through }) c.extent_on_disk.ensures) c.reserve-reserved.ensures.near)

pub returns-in-Err-clause-near : goal.returns-in-Err-clause-near
returns-in-Err-clause-near g c =
    rw (← c.self.view_is) (near_up c.self.inside.parts.table.items (g.D.Shown.view c.self.inside.parts.device) (g.D.Shown.view c.free.new.self) c.args.request.now _ c.self.invariant.on_disk.whole
    (ap (λ (e : Extent). record { volume = 0; kind = c.args.request.now.kind; extent = e; through = c.args.request.now.through }) c.extent_on_disk.ensures) (near_after (g.D.Shown.view c.self.inside.parts.device) (g.D.Shown.view c.reserve-reserved.new.self) (g.D.Shown.view c.free.new.self)
    (record { volume = 0; kind = c.args.request.now.kind; extent = c.extent_on_disk.result; through = c.args.request.now.through }) (ap (λ (x : DeviceView). x.adapter) c.free.ensures.frees.same) c.reserve-reserved.ensures.near))

pub returns-clause-near : goal.returns-clause-near
returns-clause-near g c =
    rw (← c.self.view_is) (near_up c.self.inside.parts.table.items (g.D.Shown.view c.self.inside.parts.device) (g.D.Shown.view c.reserve-reserved.new.self) c.args.request.now _ c.self.invariant.on_disk.whole
    (ap (λ (e : Extent). record { volume = 0; kind = c.args.request.now.kind; extent = e; through = c.args.request.now.through }) c.extent_on_disk.ensures) c.reserve-reserved.ensures.near)
