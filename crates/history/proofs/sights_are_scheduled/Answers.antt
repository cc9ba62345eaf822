use Rattle.history.proofs.Telling.{sights_scheduled}
use Rattle.history.proofs.sights_are_scheduled.Goals as goal

pub returns : goal.returns
returns c = sights_scheduled
