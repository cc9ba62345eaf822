use Rattle.machine_laws.proofs.Booked.{entries_are_of_runs}
use Rattle.machine_laws.proofs.entries_are_of_runs.Goals as goal

pub returns : goal.returns
returns c = entries_are_of_runs
