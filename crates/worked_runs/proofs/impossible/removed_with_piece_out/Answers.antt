use Rattle.worked_runs.proofs.Starting.{reaches_removing_out, ends_not_with_piece_out}
use Rattle.worked_runs.proofs.impossible.removed_with_piece_out.Goals as goal

pub returns-clause-reached : goal.returns-clause-reached
returns-clause-reached c = reaches_removing_out

pub returns-clause-never : goal.returns-clause-never
returns-clause-never c = ends_not_with_piece_out
