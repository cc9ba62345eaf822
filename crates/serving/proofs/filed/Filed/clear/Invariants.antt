use Rattle.serving.proofs.Common.{◌≡◌, ◌≤◌, ◌-◌, HasCleared}
use Rattle.serving.proofs.filed.Filed.clear.Given as goal

-- this many zeros were written
abbrev pub invariant-loop-done : goal.invariant-loop-done
invariant-loop-done g l = record {
  within : l.done ≤ l.count;
  cleared : HasCleared l.initial.self l.offset l.done l.through l.self;
  same : l.self.sizes ≡ l.initial.self.sizes;
}

abbrev pub decreases-loop-done : goal.decreases-loop-done
decreases-loop-done g l = l.count - l.done
