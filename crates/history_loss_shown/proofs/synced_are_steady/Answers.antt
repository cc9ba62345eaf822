use Rattle.history_loss_shown.proofs.Explaining.{synced_steady}
use Rattle.history_loss_shown.proofs.synced_are_steady.Goals as goal

pub returns : goal.returns
returns c = synced_steady
