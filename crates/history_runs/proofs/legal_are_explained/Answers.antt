use Rattle.history_runs.proofs.Exact.{legal_explained}
use Rattle.history_runs.proofs.legal_are_explained.Goals as goal

pub returns : goal.returns
returns c = legal_explained
