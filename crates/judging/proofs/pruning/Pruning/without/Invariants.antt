-- What is left so far breaks the rule that is sought.
use Rattle.judging.specs.inside.Cut.{IsCut}
use Rattle.judging.proofs.pruning.Pruning.without.Given as goal

abbrev pub invariant-loop-halving : goal.invariant-loop-halving
invariant-loop-halving l = IsCut l.goal.standard.now l.goal.sought l.least
