use Rattle.compose.proofs.KeepsLabels.{step_same_rules}
use Rattle.compose.proofs.laws.steps_keep_rules.Goals as goal

pub returns : goal.returns
returns c = step_same_rules
