use Rattle.judging.proofs.LinesRead.{at_last}
use Rattle.judging.proofs.reading.next_line.Goals as goal

pub returns-in-Ok-clause-last : goal.returns-in-Ok-clause-last
returns-in-Ok-clause-last g c = at_last _ _ _ _ c.clear.ensures.items c.in-Ok.ensures.bytes c.in-Ok.ensures.rest
