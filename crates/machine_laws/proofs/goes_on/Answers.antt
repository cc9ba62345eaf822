use Rattle.machine_laws.proofs.Going.{opening_is_reached, run_goes_on, run_splits}
use Rattle.machine_laws.proofs.goes_on.Goals as goal

pub returns : goal.returns
returns c = record { opening = opening_is_reached; run = run_goes_on; splits = run_splits }
