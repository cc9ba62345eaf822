use Rattle.partition.proofs.Common.{◌≡◌, Some, sym, subst, DeviceView, room_at}
use Rattle.partition.proofs.Hand.{under, frees_shown}
use Rattle.partition.proofs.layer.PartitionsDevice.free.Goals as goal

pub free-requires : goal.free-requires
free-requires g c = record { reserved = (_, (under _ _ _ _ _ c.requires.reserved.0 c.self.invariant (subst (λ (x : DeviceView). room_at x.rooms c.args.room.spot ≡ Some c.requires.reserved.0) (sym c.self.view_is) c.requires.reserved.1)).is_room) }

pub invariant_of-self : goal.invariant_of-self
invariant_of-self g c = (frees_shown _ _ _ _ _ _ _ c.self.invariant c.shows_order.ensures.order (under _ _ _ _ _ c.requires.reserved.0 c.self.invariant (subst (λ (x : DeviceView). room_at x.rooms c.args.room.spot ≡ Some c.requires.reserved.0) (sym c.self.view_is) c.requires.reserved.1)) c.free.ensures.frees).1

pub returns : goal.returns
returns g c = rw (← c.self.view_is) (record { frees = (frees_shown _ _ _ _ _ _ _ c.self.invariant c.shows_order.ensures.order (under _ _ _ _ _ c.requires.reserved.0 c.self.invariant (subst (λ (x : DeviceView). room_at x.rooms c.args.room.spot ≡ Some c.requires.reserved.0) (sym c.self.view_is) c.requires.reserved.1)) c.free.ensures.frees).0 })
