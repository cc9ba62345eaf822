use Rattle.hold_filter.proofs.Common.{◌<◌, subst, sym, array_vec_len, Irp, PassesDown}
use Rattle.hold_filter.proofs.Sending.{some_location, few_locations, number_below, locations_below}
use Rattle.hold_filter.proofs.Sending.{timely_below}
use Rattle.hold_filter.proofs.Sending.{own_below, carries_below}
use Rattle.hold_filter.proofs.parts.Parts.send.Goals as goal

pub pass_down-requires-clause-own : goal.pass_down-requires-clause-own
pass_down-requires-clause-own g c = subst (λ (i : Irp). 0 < array_vec_len i.locations)
    (sym c.deref_mut.ensures.value)
    (some_location _ _ _ _ c.requires.may_send)

pub pass_down-requires-clause-place : goal.pass_down-requires-clause-place
pass_down-requires-clause-place g c = subst (λ (i : Irp). array_vec_len i.locations < 4)
    (sym c.deref_mut.ensures.value)
    (few_locations _ _ _ _ c.requires.may_send)

pub submit-requires-clause-number : goal.submit-requires-clause-number
submit-requires-clause-number g c =
    number_below _ _ _ _ c.requires.may_send _
    (subst (λ (i : Irp). PassesDown i c.pass_down.new.irp) c.deref_mut.ensures.value c.pass_down.ensures)

pub submit-requires-clause-locations : goal.submit-requires-clause-locations
submit-requires-clause-locations g c =
    locations_below _ _ _ _ c.requires.may_send _
    (subst (λ (i : Irp). PassesDown i c.pass_down.new.irp) c.deref_mut.ensures.value c.pass_down.ensures)

pub submit-requires-clause-not_cancelled : goal.submit-requires-clause-not_cancelled
submit-requires-clause-not_cancelled g c =
    timely_below _ _ _ _ c.requires.may_send _
    (subst (λ (i : Irp). PassesDown i c.pass_down.new.irp) c.deref_mut.ensures.value c.pass_down.ensures)

pub submit-requires-clause-own_location : goal.submit-requires-clause-own_location
submit-requires-clause-own_location g c =
    own_below _ _ _ _ c.requires.may_send _
    (subst (λ (i : Irp). PassesDown i c.pass_down.new.irp) c.deref_mut.ensures.value c.pass_down.ensures) _
    c.requires.buffers

pub submit-requires-clause-carries : goal.submit-requires-clause-carries
submit-requires-clause-carries g c =
    carries_below _ _ _ _ c.requires.may_send _
    (subst (λ (i : Irp). PassesDown i c.pass_down.new.irp) c.deref_mut.ensures.value c.pass_down.ensures) _
    c.requires.buffers

pub returns-clause-sends : goal.returns-clause-sends
returns-clause-sends g c =
    record {
      sent = c.pass_down.new.irp;
      passes =
          (subst (λ (i : Irp). PassesDown i c.pass_down.new.irp) c.deref_mut.ensures.value c.pass_down.ensures);
      submits =
          c.submit.ensures.submits;
    }
