use Rattle.compose.proofs.StepLaws.{steps_leave_answers}
use Rattle.compose.proofs.laws.steps_leave_answers.Goals as goal

pub returns : goal.returns
returns c = steps_leave_answers
