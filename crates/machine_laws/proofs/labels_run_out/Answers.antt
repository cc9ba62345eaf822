use Rattle.machine_laws.proofs.UsedUp.{steps_use_up, runs_use_up, no_more_are_left}
use Rattle.machine_laws.proofs.labels_run_out.Goals as goal

pub returns : goal.returns
returns c = record { step = steps_use_up; run = runs_use_up; none_brought = no_more_are_left }
