use Rattle.std.proofs.Common.{refl}
use Rattle.history_loss_sector.specs.Seen.{shared_in, turned_sight}
use Rattle.history_loss_judge.proofs.Labels.{on_ok}
use Rattle.history_loss_judge.proofs.Turning.{cells_turned}
use Rattle.history_loss_judge.proofs.cells.Cells.turn_all.Goals as goal

pub returns : goal.returns
returns c = λ start kept h.
    on_ok c.turn_each.result (λ after. cells_turned start (shared_in c.args.shared.now) (turned_sight c.args.how) kept c.args.self.now _ refl refl after h) c.turn_each.ensures
