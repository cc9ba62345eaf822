use Rattle.history_loss_fits.proofs.Fitting.{explained_fits}
use Rattle.history_loss_fits.proofs.explained_fit.Goals as goal

pub returns : goal.returns
returns c = explained_fits
