use Rattle.compose.proofs.Memory.{steps_take_no_memory}
use Rattle.compose.proofs.laws.steps_take_no_memory.Goals as goal

pub returns : goal.returns
returns c = steps_take_no_memory
