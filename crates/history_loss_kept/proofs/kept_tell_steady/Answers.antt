use Rattle.history_loss_kept.proofs.kept_tell_steady.Goals as goal
use Rattle.history_loss_kept.proofs.Telling.{tell_steady}

pub returns : goal.returns
returns c = tell_steady
