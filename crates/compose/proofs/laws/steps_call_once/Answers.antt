use Rattle.compose.proofs.StepLaws.{steps_call_once}
use Rattle.compose.proofs.laws.steps_call_once.Goals as goal

pub returns : goal.returns
returns c = steps_call_once
