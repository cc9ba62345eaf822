use Rattle.std.proofs.Common.{length}
use Rattle.register_judge.specs.inside.States.{forms_of}
use Rattle.register_judge.proofs.Pruning.{PrunesSoFar}
use Rattle.register_judge.proofs.covering.left_of_all.Given as goal

-- each state is still to be looked at, or covered
abbrev pub invariant-loop-state : goal.invariant-loop-state
invariant-loop-state l = PrunesSoFar (forms_of l.initial.states.items) (forms_of l.states.items) (forms_of l.left.items)

abbrev pub decreases-loop-state : goal.decreases-loop-state
decreases-loop-state l = length l.states.items
