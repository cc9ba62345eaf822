use Rattle.std.proofs.Common.{◌≤◌, ◌-◌}
use Rattle.nbd.specs.inside.Streams.{Skips}
use Rattle.nbd.proofs.streams.skip.Given as goal

abbrev pub invariant-loop-left : goal.invariant-loop-left
invariant-loop-left g l = record {
  few : l.left ≤ l.count;
  skipped : Skips (l.count - l.left) (g.R.Read.remaining l.fn.input) (g.R.Read.remaining l.input);
}

abbrev pub decreases-loop-left : goal.decreases-loop-left
decreases-loop-left g l = l.left
