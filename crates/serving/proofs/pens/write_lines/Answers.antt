use Rattle.serving.proofs.Writing.{lined_more, lined_none}
use Rattle.serving.proofs.pens.write_lines.Goals as goal

pub loop-label-init : goal.loop-label-init
loop-label-init c = lined_none _ _ _

pub loop-label-preserved : goal.loop-label-preserved
loop-label-preserved c = lined_more _ _ c.loop-label.stack c.take_shown.new.self c.in-Some.label _ _ _ _ c.loop-label.invariant c.in-Some.ensures c.write_one-all.ensures
