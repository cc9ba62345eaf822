use Rattle.std.proofs.Common.{◌≡◌, take}
use Rattle.std.specs.List.{filter}
use Rattle.register_loss_judge.specs.inside.States.{stays}
use Rattle.register_loss_judge.proofs.values.staying.Given as goal

-- those so far that stay are there
abbrev pub invariant-loop-one : goal.invariant-loop-one
invariant-loop-one l = l.kept.items ≡ filter (stays l.flush) (take l.one-index l.older)
