use Rattle.machine_laws.proofs.Writes.{steps_keep_arrays, runs_keep_arrays}
use Rattle.machine_laws.proofs.keeps_arrays.Goals as goal

pub returns : goal.returns
returns c = record { step = steps_keep_arrays; run = runs_keep_arrays }
