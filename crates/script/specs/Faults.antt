-- Why a script was not read, or not played to its end, and what is printed of that.
use Rattle.std.specs.Prelude.{◌≡◌, ◌≢◌, ◌⊎◌, ◌++◌, ℕ, List, codes}
use Rattle.std.specs.Fmt.{decimal}
use Rattle.std.specs.declared.io.ErrorKind.{ErrorKind}
use Rattle.std.specs.declared.io.ErrorKind.TheVariants.{OutOfMemory}
use Rattle.script.specs.declared.ScriptFault.{ScriptFault}
use Rattle.script.specs.declared.ScriptFault.TheVariants.{BadLine, NoMemory, OutputFailed}

-- the text of a fault
abbrev pub text_of : ScriptFault → List ℕ
text_of (BadLine line) = codes "script line " ++ (decimal line ++ codes ": bad line")
text_of NoMemory = codes "no memory"
text_of OutputFailed = codes "output failed"

-- why a text was not printed whole: memory was refused, or the output failed
abbrev pub IsPrintFault : ScriptFault → Type 0
IsPrintFault fault = (fault ≡ NoMemory) ⊎ (fault ≡ OutputFailed)

-- the fault of a write that failed with an error of this kind: want of memory, or a failed output
pub record IsOfWrite (kind : ErrorKind) (fault : ScriptFault) : Type 0 where
  pub is_print_fault : IsPrintFault fault
  pub memory : kind ≡ OutOfMemory → fault ≡ NoMemory
  pub output : kind ≢ OutOfMemory → fault ≡ OutputFailed
