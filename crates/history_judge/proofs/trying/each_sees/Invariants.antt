use Rattle.history_judge.specs.inside.Cells.{SawBelow}
use Rattle.history_judge.proofs.trying.each_sees.Given as goal

-- those so far have taken it
abbrev pub invariant-loop-one : goal.invariant-loop-one
invariant-loop-one l = SawBelow l.given.sight l.one-index l.fn.tries.items l.one-items
