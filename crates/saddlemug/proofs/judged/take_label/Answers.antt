use Rattle.saddlemug.proofs.judged.take_label.Goals as goal

pub returns : goal.returns
returns c = (c.told_of-told.result, c.told_of-told.ensures, c.take_told.ensures.goes)
