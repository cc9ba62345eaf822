use Rattle.history.proofs.Fitting.{refused_unexplained_by_any}
use Rattle.history.proofs.refused_are_unexplained_by_any.Goals as goal

pub returns : goal.returns
returns c = refused_unexplained_by_any
