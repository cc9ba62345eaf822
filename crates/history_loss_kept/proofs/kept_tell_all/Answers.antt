use Rattle.history_loss_kept.proofs.kept_tell_all.Goals as goal
use Rattle.history_loss_kept.proofs.Telling.{tell_all}

pub returns : goal.returns
returns c = tell_all
