use Rattle.label_text.proofs.Filling.{AreFilled}
use Rattle.label_text.proofs.decoding.fill.Given as goal

-- the bytes so far stand in their places
abbrev pub invariant-loop-at : goal.invariant-loop-at
invariant-loop-at l = AreFilled l.digits l.bytes l.at l.all
