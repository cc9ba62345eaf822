use Rattle.label_text.proofs.Same.{one_same}
use Rattle.label_text.proofs.runs.are_all.Goals as goal

pub loop-b-preserved : goal.loop-b-preserved
loop-b-preserved c = one_same c.args.byte c.args.bytes.now c.loop-b.b-index _ c.loop-b.same c.loop-b-test.true c.loop-b.invariant
