use Rattle.worked_runs.proofs.Early.{reaches_cancelled_out, answers_not_cancelled_out}
use Rattle.worked_runs.proofs.impossible.cancel_answers_at_adapter.Goals as goal

pub returns-clause-reached : goal.returns-clause-reached
returns-clause-reached c = reaches_cancelled_out

pub returns-clause-never : goal.returns-clause-never
returns-clause-never c = answers_not_cancelled_out
