use Rattle.history_loss_shown.proofs.Tying.{by_tie}
use Rattle.history_loss_shown.proofs.sync_ties.Goals as goal

pub returns : goal.returns
returns c = by_tie
