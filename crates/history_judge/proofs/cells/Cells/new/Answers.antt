use Rattle.history_judge.proofs.Visiting.{no_cells}
use Rattle.history_judge.proofs.cells.Cells.new.Goals as goal

pub returns : goal.returns
returns c = λ any start. no_cells any start _ c.new-index.ensures.empty
