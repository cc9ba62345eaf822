use Rattle.std.proofs.Common.{refl}
use Rattle.history_judge.proofs.Celling.{cell_waits}
use Rattle.history_judge.proofs.cell.Cell.wait_on.Goals as goal

pub returns : goal.returns
returns c = λ any start waits h. cell_waits any start waits c.args.self.now _ (record { line = c.args.line; wait = c.args.wait }) h refl refl c.in_ok-push.ensures.items
