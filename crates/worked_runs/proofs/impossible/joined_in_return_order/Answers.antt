use Rattle.worked_runs.proofs.Losing.{reaches_both_back, joins_not_by_return}
use Rattle.worked_runs.proofs.impossible.joined_in_return_order.Goals as goal

pub returns-clause-reached : goal.returns-clause-reached
returns-clause-reached c = reaches_both_back

pub returns-clause-never : goal.returns-clause-never
returns-clause-never c = joins_not_by_return
