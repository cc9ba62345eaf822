use Rattle.compose.proofs.OpensAsTold.{steps_open_as_told}
use Rattle.compose.proofs.laws.steps_open_as_told.Goals as goal

pub returns : goal.returns
returns c = steps_open_as_told
