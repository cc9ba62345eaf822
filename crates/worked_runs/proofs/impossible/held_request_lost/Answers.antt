use Rattle.worked_runs.proofs.Losing.{reaches_waits_behind, settled_behind, reaches_left_behind, settled_not_left}
use Rattle.worked_runs.proofs.impossible.held_request_lost.Goals as goal

pub returns-clause-reached : goal.returns-clause-reached
returns-clause-reached c = reaches_waits_behind

pub returns-clause-settled : goal.returns-clause-settled
returns-clause-settled c = settled_behind

pub returns-clause-left : goal.returns-clause-left
returns-clause-left c = reaches_left_behind

pub returns-clause-unsettled : goal.returns-clause-unsettled
returns-clause-unsettled c = settled_not_left
