use Rattle.std.proofs.Common.{◌≡◌, ◌∙◌, ◌-◌, suc, ap, arith}
use Rattle.lanes.specs.Queue.{lanes_of}
use Rattle.rounds.proofs.threads.start_lanes.Goals as goal

pub last_lane-requires : goal.last_lane-requires
last_lane-requires g c =
    let one_more : c.args.depth - c.loop-started.started ≡ suc (c.args.depth - 1 - c.loop-started.started) = omega arith in
    c.loop-started.invariant ∙ ap (lanes_of _) one_more
