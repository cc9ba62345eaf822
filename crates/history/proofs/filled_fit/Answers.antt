use Rattle.history.proofs.Fitting.{filled_fits}
use Rattle.history.proofs.filled_fit.Goals as goal

pub returns : goal.returns
returns c = filled_fits
