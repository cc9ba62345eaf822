use Rattle.std.proofs.Common.{◌≡◌, ◌++◌, drop}
use Rattle.register_loss_judge.proofs.values.shared_older.Given as goal

abbrev pub invariant-loop-one : goal.invariant-loop-one
invariant-loop-one l = l.all.items ++ drop l.one-index l.older ≡ l.older
