use Rattle.std.proofs.Common.{refl}
use Rattle.session_judge.proofs.Saying.{can_by, cant_by, said}
use Rattle.session_judge.proofs.judging.verdict_of.Goals as goal

pub returns-in-Refused : goal.returns-in-Refused
returns-in-Refused c =
    cant_by c.as_slice-tables.result.now c.args.reading.now.deeds.items c.as_slice-deeds.result.now c.in_ok-happenings.happenings.items c.as_slice.result.now _ c.in-Refused.taken c.in-Refused.sector c.in_ok-taken.field-0
    c.as_slice-deeds.ensures.value c.in_ok-happenings.ensures c.as_slice.ensures.value c.in_ok-taken.ensures.right c.in-Refused.is

pub returns : goal.returns
returns c =
    said c.args.reading.now.deeds.items c.args.reading.now.count c.args.reading.now.stop c.stopped.result c.stopped.ensures
    (can_by c.as_slice-tables.result.now c.args.reading.now.deeds.items c.as_slice-deeds.result.now c.in_ok-happenings.happenings.items c.as_slice.result.now _ c.in_ok-taken.field-0
    c.as_slice-deeds.ensures.value c.in_ok-happenings.ensures c.as_slice.ensures.value c.in_ok-taken.ensures.right c.in-Passed.is refl c.if-not-are_numbered.ensures)
