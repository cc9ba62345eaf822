-- What is left so far breaks the rule that is sought.
use Rattle.judging.specs.inside.Cut.{IsCut}
use Rattle.judging.proofs.pruning.Pruning.passed.Given as goal

abbrev pub invariant-loop-turn : goal.invariant-loop-turn
invariant-loop-turn l = IsCut l.goal.standard.now l.goal.sought l.least
