-- A script run through a stack, and the trace that is written of it.
use Rattle.std.specs.Prelude.{◌≡◌, ℕ, List, Option}
use Rattle.script.specs.declared.Style.TheVariants.{Trace}
use Rattle.script.specs.declared.ScriptFault.TheVariants.{BadLine as BadScriptLine, NoMemory as WantOfMemory, OutputFailed as PrintFailed}
use Rattle.script_runs.specs.declared.faults.Error.TheVariants.{Startup as RunStartup, Unreadable as RunUnreadable, Script as RunScript}
use Rattle.script_runs.specs.Runs.{IsRunFault, IsTextOf, IsUntold as IsRunUntold}
use Rattle.judging.specs.declared.faults.Error.{Error}
use Rattle.judging.specs.declared.faults.Error.TheVariants.{Usage, Startup, TraceUnreadable, ScriptUnreadable, BadLine, NoLabel, Readings, Script, OutputFailed, NoMemory}

-- what is written of a script: the labels of the steps of its lines, from the stack that its settings start
abbrev pub IsRecordOf : Option (List ℕ) → Option (List ℕ) → List ℕ → Type 0
IsRecordOf config script text = IsTextOf Trace config script text

-- why a script is not recorded to its end
abbrev pub IsRecordFault : Option (List ℕ) → Option (List ℕ) → Error → Type 0
IsRecordFault config script Usage = ⊥
IsRecordFault config script (Startup fault) = IsRunFault config script (RunStartup fault)
IsRecordFault config script TraceUnreadable = ⊥
IsRecordFault config script ScriptUnreadable = IsRunFault config script RunUnreadable
IsRecordFault config script (BadLine line column) = ⊥
IsRecordFault config script NoLabel = ⊥
IsRecordFault config script (Readings line readings) = ⊥
IsRecordFault config script (Script (BadScriptLine line)) = IsRunFault config script (RunScript (BadScriptLine line))
IsRecordFault config script (Script WantOfMemory) = IsRunFault config script (RunScript WantOfMemory)
IsRecordFault config script (Script PrintFailed) = ⊥
IsRecordFault config script OutputFailed = IsRunFault config script (RunScript PrintFailed)
IsRecordFault config script NoMemory = Unit {0}

-- nothing was written, unless the output failed or memory was refused
abbrev pub IsUntold : Option (List ℕ) → Option (List ℕ) → Error → Type 0
IsUntold old new (Script fault) = IsRunUntold old new (RunScript fault)
IsUntold old new OutputFailed = Unit {0}
IsUntold old new NoMemory = Unit {0}
IsUntold old new _ = new ≡ old
