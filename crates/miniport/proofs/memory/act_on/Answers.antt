use Rattle.std.proofs.Common.{◌∙◌, ap, sym}
use Rattle.miniport.specs.inside.Slots.{Table}
use Rattle.miniport.proofs.memory.act_on.Goals as goal

pub carry_on-requires-clause-ready : goal.carry_on-requires-clause-ready
carry_on-requires-clause-ready g c = (c.requires.kept.1.pieces c.args.tag c.in-Some.on_tag c.in-Some.ensures.untouched.0).ready

pub carry_on-requires-clause-room : goal.carry_on-requires-clause-room
carry_on-requires-clause-room g c = λ kept. (c.requires.kept.1.pieces c.args.tag c.in-Some.on_tag c.in-Some.ensures.untouched.0).buffers c.in-Some.ensures.untouched.1
    (sym (ap (λ (t : Table). t.keeps_bytes) c.in-Some.ensures.after) ∙ kept)
