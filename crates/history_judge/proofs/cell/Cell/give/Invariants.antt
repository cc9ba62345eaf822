use Rattle.std.proofs.Common.{◌∷◌, ◌++◌, []}
use Rattle.history_judge.proofs.cell.Cell.give.Given as goal

-- what was seen, and this
abbrev pub ghost-with : goal.ghost-with
ghost-with a = a.self.now.items ++ a._from.now.sight ∷ []
