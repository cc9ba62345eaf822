use Rattle.worked_runs.proofs.Failing.{reaches_worn_out}
use Rattle.worked_runs.proofs.Starting.{starts_not_again}
use Rattle.worked_runs.proofs.impossible.restarted_without_end.Goals as goal

pub returns-clause-reached : goal.returns-clause-reached
returns-clause-reached c = reaches_worn_out

pub returns-clause-never : goal.returns-clause-never
returns-clause-never c = starts_not_again
