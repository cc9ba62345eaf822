use Rattle.worked_runs.proofs.Early.{reaches_one_failed, answers_not_one_failed, reaches_one_waits, answers_not_one_waits}
use Rattle.worked_runs.proofs.impossible.answers_at_first_failure.Goals as goal

pub returns-clause-reached : goal.returns-clause-reached
returns-clause-reached c = reaches_one_failed

pub returns-clause-other_out : goal.returns-clause-other_out
returns-clause-other_out c = answers_not_one_failed

pub returns-clause-waiting_reached : goal.returns-clause-waiting_reached
returns-clause-waiting_reached c = reaches_one_waits

pub returns-clause-other_waiting : goal.returns-clause-other_waiting
returns-clause-other_waiting c = answers_not_one_waits
