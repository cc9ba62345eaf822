use Rattle.std.proofs.Common.{◌≡◌, refl, length, ◌-◌, true, false, Some, None}
use Rattle.std.specs.Prelude.{slice_get}
use Rattle.std.proofs.lemmas.Bool.{ltb_from_iff}
use Rattle.irp.specs.Climb.{asks, succeeds}
use Rattle.irp.proofs.Climbing.{calls, comes_past, last_of}
use Rattle.device.proofs.Finishing.{ends}
use Rattle.device.proofs.climbing.next_to_ask.Goals as goal

pub returns-then-asks-clause-found : goal.returns-then-asks-clause-found
returns-then-asks-clause-found c =
    let asked : asks (succeeds c.args.irp.now.io_status.status) c.args.irp.now.cancelled c.in-Some.location ≡ true = cc (ltb_from_iff c.is_success-success.ensures) in
    let last : slice_get c.loop-location.irp.locations.items (length c.loop-location.irp.locations.items - 1) ≡ Some c.in-Some.location = last_of _ _ _ _ _ c.deref.ensures.0 c.last.ensures.value c.copied.ensures c.in-Some.is in
    calls c.args.irp.now c.loop-location.irp c.in-Some.location c.loop-location.invariant last asked

pub loop-location-preserved : goal.loop-location-preserved
loop-location-preserved c =
    let asked_not : asks (succeeds c.args.irp.now.io_status.status) c.args.irp.now.cancelled c.in-Some.location ≡ false = cc (ltb_from_iff c.is_success-success.ensures) in
    let last : slice_get c.loop-location.irp.locations.items (length c.loop-location.irp.locations.items - 1) ≡ Some c.in-Some.location = last_of _ _ _ _ _ c.deref.ensures.0 c.last.ensures.value c.copied.ensures c.in-Some.is in
    comes_past c.args.irp.now c.loop-location.irp _ c.in-Some.location c.loop-location.invariant last asked_not c.pop.ensures.rest (record { number = refl; payload = refl; cancelled = refl; io_status = refl; cancel_routine = refl })

pub returns-clause-found : goal.returns-clause-found
returns-clause-found c =
    let none : slice_get c.loop-location.irp.locations.items (length c.loop-location.irp.locations.items - 1) ≡ None = last_of _ _ _ _ _ c.deref.ensures.0 c.last.ensures.value c.copied.ensures c.in_default.is in
    ends c.args.irp.now c.loop-location.irp c.loop-location.invariant none
