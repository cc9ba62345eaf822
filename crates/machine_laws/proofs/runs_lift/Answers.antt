use Rattle.machine_laws.proofs.Lifted.{runs_lift}
use Rattle.machine_laws.proofs.runs_lift.Goals as goal

pub returns : goal.returns
returns c = runs_lift
