use Rattle.worked_runs.proofs.Cutting.{writes_not_off_grid}
use Rattle.worked_runs.proofs.cut_anywhere.Goals as goal

pub returns-clause-on_grid : goal.returns-clause-on_grid
returns-clause-on_grid c = writes_not_off_grid
