use Rattle.std.proofs.Common.{◌-◌, ◌<◌, ◌≤◌}
use Rattle.volume.proofs.written.end_of_written.Given as goal

abbrev pub invariant-loop-reach : goal.invariant-loop-reach
invariant-loop-reach l = (l.from < l.reach) × (l.reach ≤ l.end)

-- proposed from the loop's first test
abbrev pub decreases-loop-reach : goal.decreases-loop-reach
decreases-loop-reach l = l.last - l.reach
