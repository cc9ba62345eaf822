use Rattle.lanes.specs.Queue.{HasPut, IsLane}
use Rattle.lanes.proofs.serve_lane.Given as goal

abbrev pub invariant-loop : goal.invariant-loop
invariant-loop g l = IsLane l.lane.completions.now.id l.lane.tag l.pass × HasPut l.initial.pass.view l.pass.view
