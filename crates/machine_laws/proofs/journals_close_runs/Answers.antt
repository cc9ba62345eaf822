use Rattle.machine_laws.proofs.Closing.{journals_close_runs}
use Rattle.machine_laws.proofs.journals_close_runs.Goals as goal

pub returns : goal.returns
returns c = journals_close_runs
