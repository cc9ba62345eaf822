use Rattle.worked_runs.proofs.Losing.{reaches_cut, starts_not_cut}
use Rattle.worked_runs.proofs.impossible.cancel_ignored.Goals as goal

pub returns-clause-reached : goal.returns-clause-reached
returns-clause-reached c = reaches_cut

pub returns-clause-never : goal.returns-clause-never
returns-clause-never c = starts_not_cut
