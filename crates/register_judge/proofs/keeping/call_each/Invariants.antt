use Rattle.register_judge.specs.inside.Registers.{CalledBelow}
use Rattle.register_judge.proofs.keeping.call_each.Given as goal

abbrev pub invariant-loop-state : goal.invariant-loop-state
invariant-loop-state l = CalledBelow l.wait l.state-index l.fn.states.items l.state-items
