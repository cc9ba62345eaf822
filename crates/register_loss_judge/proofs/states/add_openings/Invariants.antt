use Rattle.std.proofs.Common.{◌≡◌, ◌++◌, map, drop}
use Rattle.register_loss.specs.Schedules.{opening}
use Rattle.register_loss_judge.specs.inside.States.{forms}
use Rattle.register_loss_judge.proofs.states.add_openings.Given as goal

abbrev pub invariant-loop-value : goal.invariant-loop-value
invariant-loop-value l = forms l.states.items ++ map opening (drop l.value-index l.values) ≡ forms l.fn.states.items ++ map opening l.values
