-- The requests so far.
use Rattle.std.proofs.Common.{◌≡◌, map}
use Rattle.machine.specs.Holding.{as_timely}
use Rattle.judge.proofs.holding.all_timely.Given as goal

abbrev pub invariant-loop-entry : goal.invariant-loop-entry
invariant-loop-entry l = l.after.items ≡ map as_timely l.yielded
