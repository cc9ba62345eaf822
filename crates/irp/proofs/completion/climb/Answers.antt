use Rattle.std.proofs.Common.{◌≡◌, ap, refl, length, ◌-◌, true, false, Some, None}
use Rattle.std.specs.Prelude.{slice_get}
use Rattle.std.proofs.lemmas.Bool.{ltb_from_iff}
use Rattle.irp.specs.Climb.{asks, succeeds}
use Rattle.irp.proofs.Climbing.{calls, comes_past, all_passed, last_of}
use Rattle.irp.proofs.completion.climb.Goals as goal

pub returns-then-asks-clause-climbs : goal.returns-then-asks-clause-climbs
returns-then-asks-clause-climbs c =
    let asked : asks (succeeds c.args.irp.io_status.status) c.args.irp.cancelled c.in-Some.location ≡ true = cc (ltb_from_iff c.is_success-success.ensures) in
    let last : slice_get c.loop-location.irp.locations.items (length c.loop-location.irp.locations.items - 1) ≡ Some c.in-Some.location = last_of _ _ _ _ _ c.deref.ensures.0 c.last.ensures.value c.copied.ensures c.in-Some.is in
    calls c.args.irp c.loop-location.irp c.in-Some.location c.loop-location.invariant last asked

pub loop-location-preserved : goal.loop-location-preserved
loop-location-preserved c =
    let asked_not : asks (succeeds c.args.irp.io_status.status) c.args.irp.cancelled c.in-Some.location ≡ false = cc (ltb_from_iff c.is_success-success.ensures) in
    let last : slice_get c.loop-location.irp.locations.items (length c.loop-location.irp.locations.items - 1) ≡ Some c.in-Some.location = last_of _ _ _ _ _ c.deref.ensures.0 c.last.ensures.value c.copied.ensures c.in-Some.is in
    comes_past c.args.irp c.loop-location.irp _ c.in-Some.location c.loop-location.invariant last asked_not c.pop.ensures.rest (record { number = refl; payload = refl; cancelled = refl; io_status = refl; cancel_routine = refl })

pub returns-clause-climbs : goal.returns-clause-climbs
returns-clause-climbs c =
    let none : slice_get c.loop-location.irp.locations.items (length c.loop-location.irp.locations.items - 1) ≡ None = last_of _ _ _ _ _ c.deref.ensures.0 c.last.ensures.value c.copied.ensures c.in_default.is in
    record {
      passed_over = all_passed c.args.irp c.loop-location.irp c.loop-location.invariant none;
      number_is = c.loop-location.invariant.kept.number;
      status_is = ap (λ s. s.status) c.loop-location.invariant.kept.io_status;
      information_is = ap (λ s. s.information) c.loop-location.invariant.kept.io_status;
      payload_is = c.loop-location.invariant.kept.payload;
    }
