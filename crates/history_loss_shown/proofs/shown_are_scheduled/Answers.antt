use Rattle.history_loss_shown.proofs.Explaining.{shown_scheduled}
use Rattle.history_loss_shown.proofs.shown_are_scheduled.Goals as goal

pub returns : goal.returns
returns c = shown_scheduled
