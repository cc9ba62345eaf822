use Rattle.history_loss_judge.proofs.Visiting.{no_cells}
use Rattle.history_loss_judge.proofs.cells.Cells.new.Goals as goal

pub returns : goal.returns
returns c = λ start. no_cells start _ c.new-index.ensures.empty
