use Rattle.std.proofs.Common.{length}
use Rattle.register_loss_judge.specs.inside.States.{forms}
use Rattle.register_loss_judge.proofs.Inserting.{InsertsSoFar}
use Rattle.register_loss_judge.proofs.covering.insert_all.Given as goal

-- each of the others is still to be looked at, or covered
abbrev pub invariant-loop-state : goal.invariant-loop-state
invariant-loop-state l = InsertsSoFar (forms l.initial.states.items) (forms l.initial.others.items) (forms l.others.items) (forms l.states.items)

abbrev pub decreases-loop-state : goal.decreases-loop-state
decreases-loop-state l = length l.others.items
