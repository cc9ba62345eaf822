-- What the text of a line tells.
use Rattle.std.specs.Prelude.{◌≡◌, ◌⊎◌, ℕ, List, IsUtf8, true, false}
use Rattle.trace_line.specs.declared.Line.{Line}
use Rattle.label_text.specs.Lines.{Spells, is_told}
use Rattle.referee.specs.declared.telling.Told.{Told}
use Rattle.referee.specs.declared.telling.Told.TheVariants.{Line as TellsLine, Nothing, Bad}
use Rattle.referee.specs.declared.why.Why.{Why}
use Rattle.referee.specs.declared.why.Why.TheVariants as why

-- a text is to tell a label, and spells none, or it is not UTF-8
abbrev pub IsBad : List ℕ → Type 0
IsBad text = ((is_told text ≡ true) × ((line : Line) → ¬ (Spells text line))) ⊎ (¬ (IsUtf8 text))

-- the text is bad, or memory for what it tells was refused
abbrev pub IsBadFor : List ℕ → Why → Type 0
IsBadFor text (why.BadLine column) = IsBad text
IsBadFor text why.NoMemory = Unit {0}
IsBadFor text _ = ⊥

abbrev pub Tells : List ℕ → Told → Type 0
Tells text (TellsLine line) = Spells text line
Tells text Nothing = is_told text ≡ false
Tells text (Bad fault) = IsBadFor text fault
