use Rattle.read_ahead.proofs.Standings.{brings_all}
use Rattle.read_ahead.proofs.ReadAheadAhead.read_on.Goals as goal

pub ask-asked-requires-clause-brings : goal.ask-asked-requires-clause-brings
ask-asked-requires-clause-brings g c = brings_all _ _ _ c.ahead.ensures.next c.in-Some.ensures.brings
