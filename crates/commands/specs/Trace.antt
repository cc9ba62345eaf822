-- What is printed of settings and a script, and why not all of it is printed.
use Rattle.std.specs.Prelude.{◌≡◌, ℕ, List, Option}
use Rattle.script.specs.declared.Style.TheVariants.{Transcript}
use Rattle.script_runs.specs.declared.faults.Error.TheVariants.{Startup as RunStartup, Unreadable as RunUnreadable, Script as RunScript}
use Rattle.script_runs.specs.Runs.{IsRunFault, IsTextOf, IsUntold as IsRunUntold}
use Rattle.commands.specs.declared.faults.Error.{Error}
use Rattle.commands.specs.declared.faults.Error.TheVariants.{Usage, Startup, ScriptUnreadable, Script, NoMemory}

-- what is printed of a script: each line, its reply and the labels of its step, from the stack that its settings start
abbrev pub IsPrintOf : Option (List ℕ) → Option (List ℕ) → List ℕ → Type 0
IsPrintOf config script text = IsTextOf Transcript config script text

-- why a script is not run to its end
abbrev pub IsTraceFault : Option (List ℕ) → Option (List ℕ) → Error → Type 0
IsTraceFault config script Usage = ⊥
IsTraceFault config script (Startup fault) = IsRunFault config script (RunStartup fault)
IsTraceFault config script ScriptUnreadable = IsRunFault config script RunUnreadable
IsTraceFault config script (Script fault) = IsRunFault config script (RunScript fault)
IsTraceFault config script NoMemory = Unit {0}

-- nothing was printed, unless the output failed or memory was refused
abbrev pub IsUntold : Option (List ℕ) → Option (List ℕ) → Error → Type 0
IsUntold old new (Script fault) = IsRunUntold old new (RunScript fault)
IsUntold old new NoMemory = Unit {0}
IsUntold old new _ = new ≡ old
