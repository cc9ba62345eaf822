-- Why a line was not read.
use Rattle.std.specs.Prelude.{ℕ, List, ⊤, ◌++◌, codes}
use Rattle.std.specs.Fmt.{decimal}
use Rattle.trace_line.specs.declared.Line.{Line}
use Rattle.label_text.specs.declared.LineFault.{LineFault}
use Rattle.label_text.specs.declared.LineFault.TheVariants.{BadWord, NoMemory}
use Rattle.label_text.specs.Lines.{Spells}

-- the text of a fault
abbrev pub text_of : LineFault → List ℕ
text_of (BadWord column) = codes "bad word in column " ++ decimal column
text_of NoMemory = codes "no memory"

-- the text is no line of a trace, or memory was refused
abbrev pub IsFaultOf : List ℕ → LineFault → Type 0
IsFaultOf text (BadWord column) = (line : Line) → ¬ (Spells text line)
IsFaultOf text NoMemory = ⊤
