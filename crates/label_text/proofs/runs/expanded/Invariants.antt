use Rattle.std.proofs.Common.{length}
use Rattle.label_text.proofs.RunsTaken.{AreTaken}
use Rattle.label_text.proofs.runs.expanded.Given as goal

abbrev pub invariant-loop-part : goal.invariant-loop-part
invariant-loop-part l = AreTaken l.word l.bytes.items l.last l.parts

abbrev pub decreases-loop-part : goal.decreases-loop-part
decreases-loop-part l = length l.parts
