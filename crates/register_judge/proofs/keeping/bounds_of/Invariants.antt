use Rattle.std.proofs.Common.{◌≡◌, drop}
use Rattle.register_judge.specs.inside.States.{forms_of, bound_of, bounds_of, gather}
use Rattle.register_judge.proofs.keeping.bounds_of.Given as goal

abbrev pub invariant-loop-state : goal.invariant-loop-state
invariant-loop-state l = gather (bound_of l.wait) (forms_of l.bounds.items) (forms_of (drop l.state-index l.states)) ≡ bounds_of l.wait (forms_of l.states)
