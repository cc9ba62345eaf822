use Rattle.std.proofs.Common.{rules, ◌≡◌, None}
use Rattle.partition.proofs.Hand.{none_shown}
use Rattle.partition.proofs.Handing.{not_finished, handed_up}
use Rattle.partition.proofs.layer.PartitionsDevice.take_done.Goals as goal

pub returns-in_err-climb : goal.returns-in_err-climb
returns-in_err-climb g c =
    let given : c.from_residual.result ≡ None = search rules in
    rw given (rw (← c.self.view_is) (record { hands_up = (none_shown _ _ _ _ _ c.self.invariant c.shows_order.ensures.order c.in_err-climb.ensures.hands_up).0 }))

pub unreachable-requires : goal.unreachable-requires
unreachable-requires g c =
    not_finished _ _ _ _ c.self.invariant.on_disk c.self.invariant.below c.in_ok-climb.climb c.in_ok-climb.room.spot c.in_default.field-0 c.in_default.is
    c.in_ok-climb.ensures.hands_up

pub invariant_of-self-2 : goal.invariant_of-self-2
invariant_of-self-2 g c =
    (handed_up _ _ _ _ c.self.invariant.on_disk c.self.invariant.below _ _ c.in_ok-climb.climb c.in-Routine.driver c.in-Routine.irp c.resume.result c.in_ok-climb.room.spot c.self.invariant c.in-Routine.is c.shows_order.ensures.order c.in_ok-climb.ensures.hands_up c.resume.ensures.climbs c.resume.ensures.cancel_routine).1

pub returns : goal.returns
returns g c =
    rw (← c.self.view_is) (record { hands_up = (handed_up _ _ _ _ c.self.invariant.on_disk c.self.invariant.below _ _ c.in_ok-climb.climb c.in-Routine.driver c.in-Routine.irp c.resume.result c.in_ok-climb.room.spot c.self.invariant c.in-Routine.is c.shows_order.ensures.order c.in_ok-climb.ensures.hands_up c.resume.ensures.climbs c.resume.ensures.cancel_routine).0 })
