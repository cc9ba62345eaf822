use Rattle.std.proofs.Common.{◌≡◌, ◌++◌, drop}
use Rattle.register_loss_judge.specs.inside.States.{forms}
use Rattle.register_loss_judge.proofs.states.copies.Given as goal

abbrev pub invariant-loop-state : goal.invariant-loop-state
invariant-loop-state l = forms l.all.items ++ forms (drop l.state-index l.states) ≡ forms l.states
