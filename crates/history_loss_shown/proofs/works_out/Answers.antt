use Rattle.history_loss_shown.proofs.Working.{by_hand}
use Rattle.history_loss_shown.proofs.works_out.Goals as goal

pub returns : goal.returns
returns c = by_hand
