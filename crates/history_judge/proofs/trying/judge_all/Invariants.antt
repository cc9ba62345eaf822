use Rattle.std.proofs.Common.{List, take}
use Rattle.std.specs.Prelude.{All}
use Rattle.register.specs.declared.Sight.{Sight}
use Rattle.history_judge.specs.inside.Starting.{IsTriedAll}
use Rattle.history_judge.specs.inside.Cells.{starts_in, IsTry}
use Rattle.history_judge.proofs.trying.judge_all.Given as goal

-- what is known of those so far
abbrev pub invariant-loop-one : goal.invariant-loop-one
invariant-loop-one l = (sights : List Sight) → All (IsTry sights) l.tries → IsTriedAll l.any l.size (starts_in (take l.one-index l.tries)) sights l.tried.so_far
