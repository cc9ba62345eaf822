use Rattle.std.proofs.Common.{◌≡◌, take}
use Rattle.std.specs.List.{filter}
use Rattle.register_loss.specs.Schedules.{has_other}
use Rattle.register_loss_judge.proofs.states.without.Given as goal

-- those so far that stay are there
abbrev pub invariant-loop-wait : goal.invariant-loop-wait
invariant-loop-wait l = l.left.items ≡ filter (has_other l.number) (take l.wait-index l.waits)
