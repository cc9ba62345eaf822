-- Why nothing is written of a script, or not all.
use Rattle.std.proofs.Common.{ℕ, List, Option}
use Rattle.script.specs.declared.ScriptFault.TheVariants.{BadLine, NoMemory, OutputFailed}
use Rattle.script_runs.specs.declared.faults.Error.{Error}
use Rattle.script_runs.specs.declared.faults.Error.TheVariants.{Startup, Unreadable, Script}
use Rattle.script_runs.specs.Runs.{IsRunFault, IsUntold as IsRunUntold}
use Rattle.judging.specs.inside.Faults.{fault_of_run}
use Rattle.judging.specs.Recorded.{IsRecordFault, IsUntold}

-- a run's fault is the program's
pub by_run : (config script : Option (List ℕ)) (fault : Error) → IsRunFault config script fault → IsRecordFault config script (fault_of_run fault)
by_run config script (Startup fault) why = why
by_run config script Unreadable why = why
by_run config script (Script (BadLine line)) why = why
by_run config script (Script NoMemory) why = why
by_run config script (Script OutputFailed) why = why

-- and nothing was written where nothing is of the run
pub untold_by_run : (old new : Option (List ℕ)) (fault : Error) → IsRunUntold old new fault → IsUntold old new (fault_of_run fault)
untold_by_run old new (Startup fault) same = same
untold_by_run old new Unreadable same = same
untold_by_run old new (Script (BadLine line)) same = same
untold_by_run old new (Script NoMemory) same = same
untold_by_run old new (Script OutputFailed) same = same
