use Rattle.std.proofs.Common.{◌≡◌, ◌++◌, drop}
use Rattle.register_judge.specs.inside.States.{forms_of}
use Rattle.register_judge.proofs.states.copies.Given as goal

abbrev pub invariant-loop-state : goal.invariant-loop-state
invariant-loop-state l = forms_of l.all.items ++ forms_of (drop l.state-index l.states) ≡ forms_of l.states
