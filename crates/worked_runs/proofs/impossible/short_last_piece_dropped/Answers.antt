use Rattle.worked_runs.proofs.Losing.{reaches_last_unsent, succeeds_not_without_last}
use Rattle.worked_runs.proofs.impossible.short_last_piece_dropped.Goals as goal

pub returns-clause-reached : goal.returns-clause-reached
returns-clause-reached c = reaches_last_unsent

pub returns-clause-never : goal.returns-clause-never
returns-clause-never c = succeeds_not_without_last
