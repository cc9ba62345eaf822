use Rattle.std.proofs.Common.{◌∙◌, ap, sym}
use Rattle.miniport.specs.inside.Slots.{Table}
use Rattle.miniport.proofs.memory.act_apart_on.Goals as goal

pub end_as_booked-requires-clause-ready : goal.end_as_booked-requires-clause-ready
end_as_booked-requires-clause-ready g c = (c.requires.kept.1.pieces c.args.tag c.in-Some.on_tag c.in-Some.ensures.untouched.0).ready

pub end_as_booked-requires-clause-room : goal.end_as_booked-requires-clause-room
end_as_booked-requires-clause-room g c = λ kept. (c.requires.kept.1.pieces c.args.tag c.in-Some.on_tag c.in-Some.ensures.untouched.0).buffers c.in-Some.ensures.untouched.1
    (sym (ap (λ (t : Table). t.keeps_bytes) c.in-Some.ensures.after) ∙ kept)
