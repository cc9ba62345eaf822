use Rattle.std.proofs.Common.{◌++◌}
use Rattle.history_judge.specs.inside.Cells.{sights_in}
use Rattle.history_judge.proofs.cell.Cell.behind.Given as goal

-- what was seen, and this
abbrev pub ghost-with : goal.ghost-with
ghost-with a = a.self.now.items ++ sights_in a._from.now.items
