use Rattle.history_loss.proofs.Scheduling.{explained_scheduled}
use Rattle.history_loss.proofs.explained_are_scheduled.Goals as goal

pub returns : goal.returns
returns c = explained_scheduled
