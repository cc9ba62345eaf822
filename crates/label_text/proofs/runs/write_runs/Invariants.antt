use Rattle.std.proofs.Common.{length}
use Rattle.label_text.proofs.LongestRuns.{AreWritten}
use Rattle.label_text.proofs.runs.write_runs.Given as goal

-- the runs before the rest are written
abbrev pub invariant-loop-rest : goal.invariant-loop-rest
invariant-loop-rest l = AreWritten l.initial.text.items l.bytes l.rest l.text.items

abbrev pub decreases-loop-rest : goal.decreases-loop-rest
decreases-loop-rest l = length l.rest
