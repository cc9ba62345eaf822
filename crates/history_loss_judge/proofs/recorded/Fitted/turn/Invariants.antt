use Rattle.std.proofs.Common.{◌∷◌, ◌++◌, []}
use Rattle.history_loss_judge.specs.inside.Lines.{turned_line}
use Rattle.history_loss_judge.proofs.recorded.Fitted.turn.Given as goal

-- the lines so far, and this end
abbrev pub ghost-with : goal.ghost-with
ghost-with a = a.self.now.items ++ turned_line a._from.now ∷ []
