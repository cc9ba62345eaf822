use Rattle.history_loss_shown.proofs.Explaining.{shown_explained}
use Rattle.history_loss_shown.proofs.shown_are_explained.Goals as goal

pub returns : goal.returns
returns c = shown_explained
