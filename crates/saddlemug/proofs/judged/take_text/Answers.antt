use Rattle.saddlemug.proofs.judged.take_text.Goals as goal

pub returns : goal.returns
returns c = (c.told_by-told.result, c.told_by-told.ensures, c.take_told.ensures.goes)
