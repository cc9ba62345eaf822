use Rattle.history_loss_runs.proofs.Explaining.{answers_explained, calls_explained}
use Rattle.history_loss_runs.proofs.explained_widen.Goals as goal

pub returns : goal.returns
returns c = record { calls = calls_explained; answers = answers_explained }
