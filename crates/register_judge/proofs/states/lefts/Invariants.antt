use Rattle.std.proofs.Common.{◌≡◌, [], drop}
use Rattle.register_judge.specs.inside.States.{lefts}
use Rattle.register_judge.proofs.states.lefts.Given as goal

abbrev pub invariant-loop-wait : goal.invariant-loop-wait
invariant-loop-wait l = lefts l.turn l.left.items (drop l.wait-index l.waits) ≡ lefts l.turn [] l.waits
