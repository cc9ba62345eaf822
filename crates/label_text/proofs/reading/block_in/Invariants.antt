use Rattle.std.proofs.Common.{length}
use Rattle.label_text.proofs.Hexed.{BeginsWith}
use Rattle.label_text.proofs.reading.block_in.Given as goal

abbrev pub invariant-loop-rest : goal.invariant-loop-rest
invariant-loop-rest l = BeginsWith l.digits l.bytes.items l.rest

abbrev pub decreases-loop-rest : goal.decreases-loop-rest
decreases-loop-rest l = length l.rest
