use Rattle.std.proofs.Common.{◌≡◌, take}
use Rattle.std.specs.List.{filter}
use Rattle.register_loss.specs.Schedules.{is_other}
use Rattle.register_loss_judge.proofs.turning.others.Given as goal

-- those so far that stay are there
abbrev pub invariant-loop-wait : goal.invariant-loop-wait
invariant-loop-wait l = l.left.items ≡ filter (is_other l.of) (take l.wait-index l.waits)
