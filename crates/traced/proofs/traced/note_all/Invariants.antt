use Rattle.traced.proofs.Common.{length, IsTrue}
use Rattle.traced.proofs.Booking.{IsNotedSoFar}
use Rattle.traced.proofs.traced.note_all.Given as goal

abbrev pub invariant-loop-label : goal.invariant-loop-label
invariant-loop-label g l =
    record { noted : IsNotedSoFar (length g.N.TraceNaming.partitions) l.client l.initial.stack l.initial.log l.initial.slots l.stack l.log l.slots; bytes : IsTrue l.stack.rules.keeps_bytes }

abbrev pub decreases-loop-label : goal.decreases-loop-label
decreases-loop-label g l = length l.stack.labels
