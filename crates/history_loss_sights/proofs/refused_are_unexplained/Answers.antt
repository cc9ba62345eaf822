use Rattle.history_loss_sights.proofs.Telling.{refused_unexplained}
use Rattle.history_loss_sights.proofs.refused_are_unexplained.Goals as goal

pub returns : goal.returns
returns c = refused_unexplained
