use Rattle.lanes.proofs.Steps.{puts_more}
use Rattle.lanes.proofs.serve_lane.Goals as goal

pub loop-preserved : goal.loop-preserved
loop-preserved g c = (c.carry_out.ensures.lane, puts_more _ _ _ _ c.requires.lane.2 c.loop.invariant.1 c.carry_out.ensures.put)
