use Rattle.std.proofs.Common.{ap}
use Rattle.lanes.proofs.Steps.{makes}
use Rattle.lanes.proofs.lane_passes.Goals as goal

pub another-queue_pass-requires-clause-rule : goal.another-queue_pass-requires-clause-rule
another-queue_pass-requires-clause-rule c = makes _ _ (ap (λ v. v.takes) c.loop.invariant.2)
