use Rattle.history_loss_runs.proofs.Explaining.{scheduled_explained}
use Rattle.history_loss_runs.proofs.scheduled_are_explained.Goals as goal

pub returns : goal.returns
returns c = scheduled_explained
