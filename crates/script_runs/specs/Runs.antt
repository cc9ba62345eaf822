-- What is written of settings and a script, and why not all of it is written.
use Rattle.std.specs.Prelude.{◌≡◌, ◌⊎◌, ℕ, Bool, List, Option, false, true}
use Rattle.std.specs.Str.{is_utf8}
use Rattle.io_manager.specs.Shown.{ManagerView}
use Rattle.settings.specs.declared.Config.{Config}
use Rattle.startup.specs.declared.faults.Error.TheVariants.{Start}
use Rattle.startup.specs.Reading.{AreRead, HasFault, IsAllOf}
use Rattle.startup.specs.Started.{IsStartFault, IsStartOf}
use Rattle.script.specs.declared.Line.{Line}
use Rattle.script.specs.declared.ScriptFault.TheVariants.{BadLine, NoMemory as WantOfMemory, OutputFailed}
use Rattle.script.specs.Script.{AreEvents, IsFirstBad, lines_of}
use Rattle.script.specs.Trace.{IsTold}
use Rattle.script.specs.declared.Style.{Style}
use Rattle.script.specs.declared.Style.TheVariants.{Trace, Transcript}
use Rattle.script_runs.specs.declared.faults.Error.{Error}
use Rattle.script_runs.specs.declared.faults.Error.TheVariants.{Startup, Unreadable, Script}

-- the settings and the events that two inputs give
pub record AreGiven (config script : Option (List ℕ)) (settings : Config) (lines : List Line) : Type 0 where
  pub are_read : AreRead config settings
  pub script_text : List ℕ
  pub all : IsAllOf script script_text
  pub events : AreEvents (lines_of script_text) lines

-- whether the labels of a script's stack keep their bytes: a trace tells them all
abbrev pub keeps_bytes : Style → Bool
keeps_bytes Transcript = false
keeps_bytes Trace = true

-- what is written of a script in some style: the texts of its lines, from the stack that its settings start
pub record IsTextOf (style : Style) (config script : Option (List ℕ)) (text : List ℕ) : Type 0 where
  pub settings : Config
  pub lines : List Line
  pub given : AreGiven config script settings lines
  pub start : ManagerView
  pub starts : IsStartOf (keeps_bytes style) settings start
  pub last : ManagerView
  pub told : IsTold style start lines text last

-- nothing was written, unless the output failed or memory was refused
abbrev pub IsUntold : Option (List ℕ) → Option (List ℕ) → Error → Type 0
IsUntold old new (Script WantOfMemory) = Unit {0}
IsUntold old new (Script OutputFailed) = Unit {0}
IsUntold old new _ = new ≡ old

-- a script could not be read to its end
abbrev pub IsUnread : Error → Type 0
IsUnread fault = (fault ≡ Unreadable) ⊎ (fault ≡ Script WantOfMemory)

-- the line of this number is blamed: the first bad one, or line 1 of a script that is not UTF-8
abbrev pub IsBlamed : List ℕ → ℕ → Type 0
IsBlamed text line = IsFirstBad text line ⊎ ((is_utf8 text ≡ false) × (line ≡ 1))

-- why a script is not run to its end. Settings are looked at first, then the script, and then a stack is started
abbrev pub IsRunFault : Option (List ℕ) → Option (List ℕ) → Error → Type 0
IsRunFault config script (Startup (Start fault)) =
    (settings : Config) × (lines : List Line) × AreGiven config script settings lines × IsStartFault settings fault
IsRunFault config script (Startup fault) = HasFault config fault
IsRunFault config script Unreadable = (settings : Config) × AreRead config settings
IsRunFault config script (Script (BadLine line)) =
    (settings : Config) × AreRead config settings × ((text : List ℕ) × IsAllOf script text × IsBlamed text line)
IsRunFault config script (Script WantOfMemory) = Unit {0}
IsRunFault config script (Script OutputFailed) =
    (settings : Config) × (lines : List Line) × AreGiven config script settings lines
