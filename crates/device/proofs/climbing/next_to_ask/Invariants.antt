use Rattle.std.proofs.Common.{length}
use Rattle.irp.proofs.Climbing.{IsClimbing}
use Rattle.device.proofs.climbing.next_to_ask.Given as goal

abbrev pub invariant-loop-location : goal.invariant-loop-location
invariant-loop-location l = IsClimbing l.fn.irp l.irp

abbrev pub decreases-loop-location : goal.decreases-loop-location
decreases-loop-location l = length l.irp.locations.items
