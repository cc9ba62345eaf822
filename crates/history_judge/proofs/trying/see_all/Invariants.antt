use Rattle.std.proofs.Common.{take}
use Rattle.history_judge.specs.inside.Cells.{AllSee, sights_in}
use Rattle.history_judge.proofs.trying.see_all.Given as goal

-- they have taken those so far
abbrev pub invariant-loop-one : goal.invariant-loop-one
invariant-loop-one l = AllSee (sights_in (take l.one-index l.given)) l.initial.tries.items l.tries.items
