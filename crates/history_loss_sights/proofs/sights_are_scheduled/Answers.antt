use Rattle.history_loss_sights.proofs.Telling.{sights_scheduled}
use Rattle.history_loss_sights.proofs.sights_are_scheduled.Goals as goal

pub returns : goal.returns
returns c = sights_scheduled
