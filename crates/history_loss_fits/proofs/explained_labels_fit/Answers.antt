use Rattle.history_loss_fits.proofs.Fitting.{labels_fit_each}
use Rattle.history_loss_fits.proofs.explained_labels_fit.Goals as goal

pub returns : goal.returns
returns c = labels_fit_each
