use Rattle.history.proofs.Fitting.{explained_by_some_fits}
use Rattle.history.proofs.explained_by_some_fit.Goals as goal

pub returns : goal.returns
returns c = explained_by_some_fits
