use Rattle.machine_laws.proofs.Success.{answered_was_moved}
use Rattle.machine_laws.proofs.answered_was_moved.Goals as goal

pub returns : goal.returns
returns c = answered_was_moved
