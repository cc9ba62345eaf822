use Rattle.std.proofs.Common.{◌≡◌, ◌++◌, drop}
use Rattle.register_loss_judge.proofs.states.shared.Given as goal

abbrev pub invariant-loop-wait : goal.invariant-loop-wait
invariant-loop-wait l = l.all.items ++ drop l.wait-index l.waits ≡ l.waits
