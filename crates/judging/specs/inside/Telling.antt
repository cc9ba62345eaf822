-- What a line of a trace tells.
use Rattle.std.specs.Prelude.{◌≡◌, ℕ, true, false, List, IsUtf8}
use Rattle.label_text.specs.Lines.{is_told}
use Rattle.judging.specs.Told.{IsBad, Records}
use Rattle.judging.specs.declared.told.Told.{Told}
use Rattle.judging.specs.declared.told.Told.TheVariants.{Line, Nothing, BadWord}

-- a text tells a label, or none, or is bad
abbrev pub Tells : List ℕ → Told → Type 0
Tells text (Line line) = (is_told text ≡ true) × Records text line × IsUtf8 text
Tells text Nothing = (is_told text ≡ false) × IsUtf8 text
Tells text (BadWord column) = IsBad text
