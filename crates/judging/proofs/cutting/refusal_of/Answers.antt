use Rattle.judging.proofs.Cuts.{found_in}
use Rattle.judging.proofs.cutting.refusal_of.Goals as goal

pub returns : goal.returns
returns c = found_in c.args.standard.now c.args.text.now _ _ c.in_ok-course.course c.stop_of.result c.in_ok-course.ensures.course c.stop_of.ensures
