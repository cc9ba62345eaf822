use Rattle.worked_runs.proofs.TooEarly.{not_yet}
use Rattle.worked_runs.proofs.impossible.answers_before_return.Goals as goal

pub returns : goal.returns
returns c = not_yet
