use Rattle.std.proofs.Common.{◌≡◌, ◌++◌, drop}
use Rattle.register_loss_judge.proofs.values.shared.Given as goal

abbrev pub invariant-loop-value : goal.invariant-loop-value
invariant-loop-value l = l.all.items ++ drop l.value-index l.values ≡ l.values
