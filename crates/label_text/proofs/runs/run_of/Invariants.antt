use Rattle.std.proofs.Common.{length}
use Rattle.label_text.proofs.Skipped.{IsSkipped}
use Rattle.label_text.proofs.runs.run_of.Given as goal

-- the bytes before the rest are all this one
abbrev pub invariant-loop-rest : goal.invariant-loop-rest
invariant-loop-rest l = IsSkipped l.byte l.bytes l.rest

abbrev pub decreases-loop-rest : goal.decreases-loop-rest
decreases-loop-rest l = length l.rest
