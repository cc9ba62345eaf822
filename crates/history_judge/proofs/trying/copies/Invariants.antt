use Rattle.std.proofs.Common.{[], take}
use Rattle.history_judge.specs.inside.Cells.{AllSee}
use Rattle.history_judge.proofs.trying.copies.Given as goal

-- those so far
abbrev pub invariant-loop-one : goal.invariant-loop-one
invariant-loop-one l = AllSee [] (take l.one-index l.tries) l.all.items
