use Rattle.std.proofs.Common.{◌≡◌, ◌++◌, map, take}
use Rattle.register_loss_judge.specs.inside.States.{outdated}
use Rattle.register_loss_judge.proofs.values.add_outdated.Given as goal

-- those so far were added
abbrev pub invariant-loop-value : goal.invariant-loop-value
invariant-loop-value l = l.older.items ≡ l.fn.older.items ++ map (outdated l.next) (take l.value-index l.now)
