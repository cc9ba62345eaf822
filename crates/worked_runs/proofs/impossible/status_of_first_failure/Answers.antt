use Rattle.worked_runs.proofs.Early.{reaches_both_failed, answers_not_as_higher}
use Rattle.worked_runs.proofs.impossible.status_of_first_failure.Goals as goal

pub returns-clause-reached : goal.returns-clause-reached
returns-clause-reached c = reaches_both_failed

pub returns-clause-never : goal.returns-clause-never
returns-clause-never c = answers_not_as_higher
