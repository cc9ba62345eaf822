use Rattle.history_loss_shown.proofs.Explaining.{synced_exact}
use Rattle.history_loss_shown.proofs.synced_are_exact.Goals as goal

pub returns : goal.returns
returns c = synced_exact
