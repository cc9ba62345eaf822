use Rattle.std.proofs.Common.{◌≡◌, ◌++◌, map, take}
use Rattle.register_loss_judge.specs.inside.States.{older_value}
use Rattle.register_loss_judge.proofs.values.add_values.Given as goal

-- those so far were added
abbrev pub invariant-loop-one : goal.invariant-loop-one
invariant-loop-one l = l.now.items ≡ l.fn.now.items ++ map older_value (take l.one-index l.older)
