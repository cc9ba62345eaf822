use Rattle.compose.proofs.JournaledKept.{steps_stay_apart}
use Rattle.compose.proofs.laws.steps_stay_apart.Goals as goal

pub returns : goal.returns
returns c = steps_stay_apart
