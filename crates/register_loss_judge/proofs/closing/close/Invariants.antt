use Rattle.register_loss_judge.specs.inside.States.{forms}
use Rattle.register_loss_judge.proofs.Growing.{ClosesSoFar}
use Rattle.register_loss_judge.proofs.closing.close.Given as goal

-- the turns of those so far are there
abbrev pub invariant-loop-index : goal.invariant-loop-index
invariant-loop-index l = ClosesSoFar (forms l.fn.states.items) l.index l.all.items
