-- Words in print, each behind a space.
use Rattle.std.specs.Prelude.{Bool, true, false, List, ℕ, [], ◌∷◌, ◌++◌, codes}
use Rattle.label_text.specs.Lines.{Words, line_end}

-- words before some text
abbrev pub spaced_before : Words → List ℕ → List ℕ
spaced_before [] text = text
spaced_before (word ∷ words) text = codes " " ++ (word ++ spaced_before words text)

-- words before the end of a line
abbrev pub spaced : Words → List ℕ
spaced words = spaced_before words line_end

-- what stands behind a run: nothing behind the last one
abbrev pub comma : Bool → List ℕ
comma true = []
comma false = codes ","
