-- The marks of the sectors so far.
use Rattle.std.proofs.Common.{◌≡◌, map}
use Rattle.machine.specs.State.{Done}
use Rattle.judge.proofs.pieces.done_marks.Given as goal

abbrev pub invariant-loop-sector : goal.invariant-loop-sector
invariant-loop-sector l = l.places.items ≡ map Done l.yielded
