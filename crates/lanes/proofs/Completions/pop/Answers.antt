use Rattle.lanes.proofs.Steps.{stands, takes}
use Rattle.lanes.proofs.Completions.pop.Goals as goal

pub pop_as-requires-clause-rule : goal.pop_as-requires-clause-rule
pop_as-requires-clause-rule g c = (takes _ _ c.requires.worker, stands _ _)
