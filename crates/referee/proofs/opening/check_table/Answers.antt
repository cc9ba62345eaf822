use Rattle.std.proofs.Common.{◌∙◌, ap, sym}
use Rattle.mbr.specs.Faults.{told_by}
use Rattle.referee.proofs.Tables.{map_of}
use Rattle.referee.proofs.opening.check_table.Goals as goal

pub returns-in-Ok-parse-clause-map : goal.returns-in-Ok-parse-clause-map
returns-in-Ok-parse-clause-map c =
    let sectors = c.args.config.now.sectors in
    map_of c.args.config.now c.in-Ok-parse.field-0.items c.requires
    (sym (c.in-Ok.ensures.says sectors) ∙ ap (told_by sectors) (sym c.as_slice.ensures.value) ∙ sym c.in-Ok-parse.ensures.answer) c.in-Ok-parse.ensures.map

pub returns-clause-fault : goal.returns-clause-fault
returns-clause-fault c =
    let sectors = c.args.config.now.sectors in
    sym (c.in-Ok.ensures.says sectors) ∙ ap (told_by sectors) (sym c.as_slice.ensures.value) ∙ sym c.in-Err.ensures.answer
