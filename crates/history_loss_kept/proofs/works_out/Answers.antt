use Rattle.history_loss_kept.proofs.Working.{by_hand}
use Rattle.history_loss_kept.proofs.works_out.Goals as goal

pub returns : goal.returns
returns c = by_hand
