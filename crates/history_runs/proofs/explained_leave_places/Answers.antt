use Rattle.history_runs.proofs.Leaving.{explained_leaving}
use Rattle.history_runs.proofs.explained_leave_places.Goals as goal

pub returns : goal.returns
returns c = explained_leaving
