use Rattle.lanes.proofs.Steps.{puts, stands}
use Rattle.lanes.proofs.Completions.push.Goals as goal

pub push_as-requires-clause-rule : goal.push_as-requires-clause-rule
push_as-requires-clause-rule g c = (puts _ _ _ _ c.requires.lane c.requires.next, stands _ _)
