use Rattle.history.proofs.Telling.{refused_unexplained}
use Rattle.history.proofs.refused_are_unexplained.Goals as goal

pub returns : goal.returns
returns c = refused_unexplained
