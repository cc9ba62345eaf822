use Rattle.history_loss_shown.proofs.Explaining.{refused_unexplained}
use Rattle.history_loss_shown.proofs.refused_have_no_sessions.Goals as goal

pub returns : goal.returns
returns c = refused_unexplained
