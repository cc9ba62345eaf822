use Rattle.std.proofs.Common.{◌≡◌, ◌++◌, drop}
use Rattle.history.specs.Waits.{known}
use Rattle.history_judge.specs.inside.Cells.{plain, sights_in}
use Rattle.history_judge.proofs.waits.known_of.Given as goal

-- what is known so far, and of the others
abbrev pub invariant-loop-marked : goal.invariant-loop-marked
invariant-loop-marked l = sights_in l.given.items ++ known (plain (drop l.marked-index l.waits)) ≡ known (plain l.waits)
