-- The line that the program says of a fault.
use Rattle.std.specs.Prelude.{ℕ, ◌++◌, List, Bool, true, false, codes}
use Rattle.script.specs.Faults.{text_of as script_text}
use Rattle.startup.specs.Texts.{text_of as startup_text}
use Rattle.script_runs.specs.declared.faults.Error.{Error as RunError}
use Rattle.script_runs.specs.declared.faults.Error.TheVariants.{Startup as RunStartup, Unreadable as RunUnreadable, Script as RunScript}
use Rattle.commands.specs.declared.faults.Error.{Error}
use Rattle.commands.specs.declared.faults.Error.TheVariants.{Usage, Startup, ScriptUnreadable, Script, NoMemory}

-- the line of a fault, without its end
abbrev pub line_of : Error → List ℕ
line_of Usage = codes "usage: stackrun trace CONFIG SCRIPT | stackrun clients CONFIG THREADS CALLS"
line_of (Startup fault) = codes "stackrun: " ++ startup_text fault
line_of ScriptUnreadable = codes "stackrun: cannot read SCRIPT"
line_of (Script fault) = codes "stackrun: " ++ script_text fault
line_of NoMemory = codes "stackrun: no memory"

-- nothing was run, since the words of the command line ask for no command
abbrev pub is_usage : Error → Bool
is_usage Usage = true
is_usage _ = false

-- the fault of a script that is not run to its end
abbrev pub fault_of_run : RunError → Error
fault_of_run (RunStartup fault) = Startup fault
fault_of_run RunUnreadable = ScriptUnreadable
fault_of_run (RunScript fault) = Script fault
