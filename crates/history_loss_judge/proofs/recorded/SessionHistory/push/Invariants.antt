use Rattle.std.proofs.Common.{◌∷◌, ◌++◌, []}
use Rattle.history_loss_judge.specs.declared.lines.Line.TheVariants.{Told}
use Rattle.history_loss_judge.proofs.recorded.SessionHistory.push.Given as goal

-- the lines behind, and this label
abbrev pub ghost-with : goal.ghost-with
ghost-with a = a.self.now.items ++ Told a._from.now ∷ []
