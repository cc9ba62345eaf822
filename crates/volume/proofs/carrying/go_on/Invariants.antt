use Rattle.volume.proofs.Common.{◌≤◌, Looks, work}
use Rattle.injection.specs.Rules.{left}
use Rattle.volume.proofs.carrying.go_on.Given as goal

abbrev pub invariant-moving : goal.invariant-moving
invariant-moving g l = record {
  looks : Looks l.fn.stack l.answer l.stack;
  no_more : left l.slowing.rules.items ≤ left l.fn.slowing.rules.items;
}

abbrev pub decreases-moving : goal.decreases-moving
decreases-moving g l = work l.stack.state
