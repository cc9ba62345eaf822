use Rattle.history_laws.proofs.Fitting.{explained_fits}
use Rattle.history_laws.proofs.explained_fit.Goals as goal

pub returns : goal.returns
returns c = explained_fits
