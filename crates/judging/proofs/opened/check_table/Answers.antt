use Rattle.std.proofs.Common.{◌∙◌, ap, inr, refl, sym}
use Rattle.mbr.specs.Faults.{told_by}
use Rattle.judging.proofs.Standards.{map_of}
use Rattle.judging.proofs.opened.check_table.Goals as goal

pub returns-in-Ok-clause-map : goal.returns-in-Ok-clause-map
returns-in-Ok-clause-map c =
    let sectors = c.args.config.now.sectors in
    map_of c.args.config.now c.in-Ok.field-0.items c.requires
    (sym (c.in_ok-sector.ensures.says sectors) ∙ ap (told_by sectors) (sym c.as_slice.ensures.value) ∙ sym c.in-Ok.ensures.answer) c.in-Ok.ensures.map

pub returns-clause-fault : goal.returns-clause-fault
returns-clause-fault c =
    let sectors = c.args.config.now.sectors in
    inr (c.in-Err.fault, refl, sym (c.in_ok-sector.ensures.says sectors) ∙ ap (told_by sectors) (sym c.as_slice.ensures.value) ∙ sym c.in-Err.ensures.answer)
