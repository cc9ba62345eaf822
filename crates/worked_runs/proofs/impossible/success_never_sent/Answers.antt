use Rattle.worked_runs.proofs.Early.{reaches_unsent, answers_not_unsent, reaches_unsent_cancelled, succeeds_not_unsent_cancelled}
use Rattle.worked_runs.proofs.impossible.success_never_sent.Goals as goal

pub returns-clause-reached : goal.returns-clause-reached
returns-clause-reached c = reaches_unsent

pub returns-clause-unanswered : goal.returns-clause-unanswered
returns-clause-unanswered c = answers_not_unsent

pub returns-clause-cancelled_reached : goal.returns-clause-cancelled_reached
returns-clause-cancelled_reached c = reaches_unsent_cancelled

pub returns-clause-never : goal.returns-clause-never
returns-clause-never c = succeeds_not_unsent_cancelled
