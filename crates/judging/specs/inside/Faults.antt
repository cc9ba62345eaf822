-- The line that the program says of a fault.
use Rattle.std.specs.Prelude.{◌≡◌, ◌≢◌, ◌⊎◌, ℕ, ◌++◌, List, Bool, true, false, codes}
use Rattle.std.specs.Fmt.{decimal}
use Rattle.std.specs.declared.io.ErrorKind.{ErrorKind}
use Rattle.std.specs.declared.io.ErrorKind.TheVariants.{OutOfMemory}
use Rattle.script.specs.Faults.{text_of as script_text}
use Rattle.script.specs.declared.ScriptFault.TheVariants.{BadLine as BadScriptLine, NoMemory as WantOfMemory, OutputFailed as PrintFailed}
use Rattle.script_runs.specs.declared.faults.Error.{Error as RunError}
use Rattle.script_runs.specs.declared.faults.Error.TheVariants.{Startup as RunStartup, Unreadable as RunUnreadable, Script as RunScript}
use Rattle.startup.specs.Texts.{text_of as startup_text}
use Rattle.judging.specs.declared.faults.Error.{Error}
use Rattle.judging.specs.declared.faults.Error.TheVariants.{Usage, Startup, TraceUnreadable, ScriptUnreadable, BadLine, NoLabel, Readings, Script, OutputFailed, NoMemory}

-- the line of a fault, without its end
abbrev pub line_of : Error → List ℕ
line_of Usage = codes "usage: stackjudge check [--any-cut] [--any-tag] [--any-read] [--many] [--whole-disk] [--gaps] [--settled] [--ended] [--json] [--sessions] CONFIG TRACE | stackjudge cut CONFIG TRACE | stackjudge record CONFIG SCRIPT | stackjudge history [--any-start] [--json] [--sessions] [CONFIG] HISTORY | stackjudge picture [--events] [--lines A-B] [CONFIG] TRACE | stackjudge picture --html CONFIG TRACE"
line_of (Startup fault) = codes "stackjudge: " ++ startup_text fault
line_of TraceUnreadable = codes "stackjudge: cannot read TRACE"
line_of ScriptUnreadable = codes "stackjudge: cannot read SCRIPT"
line_of (BadLine line column) = codes "stackjudge: trace line " ++ (decimal line ++ (codes ": bad word in column " ++ decimal column))
line_of NoLabel = codes "stackjudge: the trace has no label"
line_of (Readings line readings) = codes "stackjudge: trace line " ++ (decimal line ++ (codes ": the starts before it have " ++ (decimal readings
    ++ codes " readings, and 1024 are the most: write the request of each start behind it, as of 1")))
line_of (Script fault) = codes "stackjudge: " ++ script_text fault
line_of OutputFailed = codes "stackjudge: output failed"
line_of NoMemory = codes "stackjudge: no memory"

-- nothing was done, since the words of the command line ask for no command
abbrev pub is_usage : Error → Bool
is_usage Usage = true
is_usage _ = false

-- the fault of a write that failed with an error of this kind: want of memory, or a failed output
pub record IsOfWrite (kind : ErrorKind) (fault : Error) : Type 0 where
  pub memory : kind ≡ OutOfMemory → fault ≡ NoMemory
  pub output : kind ≢ OutOfMemory → fault ≡ OutputFailed
  pub either : (fault ≡ OutputFailed) ⊎ (fault ≡ NoMemory)

-- the fault of a script that is not run to its end
abbrev pub fault_of_run : RunError → Error
fault_of_run (RunStartup fault) = Startup fault
fault_of_run RunUnreadable = ScriptUnreadable
fault_of_run (RunScript (BadScriptLine line)) = Script (BadScriptLine line)
fault_of_run (RunScript WantOfMemory) = Script WantOfMemory
fault_of_run (RunScript PrintFailed) = OutputFailed
