-- Words in print, one by one and as a line.
use Rattle.std.proofs.Common.{◌≡◌, ◌++◌, ◌∙◌, ℕ, List, [], ◌∷◌, codes, ap, refl, sym}
use Rattle.std.specs.List.{join_with_byte}
use Rattle.std.proofs.lemmas.List.{append_assoc}
use Rattle.label_text.specs.Lines.{Words, line_end}
use Rattle.label_text.specs.inside.Spacing.{spaced, spaced_before}

-- a word and those behind it are a line
pub line_is : (verb : List ℕ) (words : Words) → verb ++ spaced words ≡ join_with_byte 32 (verb ∷ words) ++ line_end
line_is verb [] = refl
line_is verb (word ∷ words) =
    ap (λ more. verb ++ (32 ∷ more)) (line_is word words) ∙ sym (append_assoc verb (32 ∷ join_with_byte 32 (word ∷ words)) line_end)

-- words and others behind them
pub spaced_append : (words more : Words) (text : List ℕ) → spaced_before (words ++ more) text ≡ spaced_before words (spaced_before more text)
spaced_append [] more text = refl
spaced_append (word ∷ words) more text = ap (λ l. codes " " ++ (word ++ l)) (spaced_append words more text)

-- words before a text are words and then the text
pub spaced_then : (words : Words) (text : List ℕ) → spaced_before words text ≡ spaced_before words [] ++ text
spaced_then [] text = refl
spaced_then (word ∷ words) text =
    ap (λ l. 32 ∷ (word ++ l)) (spaced_then words text) ∙ ap (λ l. 32 ∷ l) (sym (append_assoc word (spaced_before words []) text))

pub words_then : (words more : Words) → spaced (words ++ more) ≡ spaced_before words [] ++ spaced more
words_then words more = spaced_append words more line_end ∙ spaced_then words (spaced more)
