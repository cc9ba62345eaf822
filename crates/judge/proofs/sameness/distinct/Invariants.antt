use Rattle.judge.specs.Following.{AreAlike}
use Rattle.judge.proofs.sameness.distinct.Given as goal

abbrev pub invariant-loop-machine : goal.invariant-loop-machine
invariant-loop-machine l = AreAlike l.yielded l.once.items
