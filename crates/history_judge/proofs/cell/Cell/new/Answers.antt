use Rattle.history_judge.proofs.Celling.{cell_first}
use Rattle.history_judge.proofs.cell.Cell.new.Goals as goal

pub returns : goal.returns
returns c = cell_first c.args.start.now.any c.args.start.now.bytes _ c.none.ensures c.new.ensures.items c.in_ok-tries.ensures
