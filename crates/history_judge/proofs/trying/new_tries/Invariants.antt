use Rattle.std.proofs.Common.{◌≡◌, [], take}
use Rattle.std.specs.Prelude.{All}
use Rattle.history_judge.specs.inside.Cells.{starts_in, IsTry}
use Rattle.history_judge.proofs.trying.new_tries.Given as goal

-- those so far
abbrev pub invariant-loop-start : goal.invariant-loop-start
invariant-loop-start l = (starts_in l.tries.items ≡ take l.start-index l.starts) × All (IsTry []) l.tries.items
