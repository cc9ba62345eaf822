-- Rules that count a command, one after the other.
use Rattle.std.proofs.Common.{◌≡◌, ◌<◌, ◌∙◌, ℕ, ◌+◌, List, [], ◌∷◌, ◌++◌, length, map, take, drop, get_or, set, arith, sym, ap}
use Rattle.std.proofs.lemmas.List.{take_more, take-set, drop-set-lt, length-drop, length-set, map-append, get_or-drop, get_or-set_same}
use Rattle.std.proofs.lemmas.Grind.{drop_more_same}

-- one more item changed
module _ {A : Type 0} (f : A → A) (old now : List A) (i : ℕ) (d y : A) (lt : i < length now) (rest : drop i now ≡ drop i old) (made : y ≡ f (get_or now i d)) where
  within : i < length old
  within = omega (arith, lt, ap (length {A = A}) rest, length-drop i now, length-drop i old)

  same : get_or now i d ≡ get_or old i d
  same =
      let zero_more : i + 0 ≡ i = omega arith in
      ap (λ k. get_or now k d) (sym zero_more) ∙ sym (get_or-drop i now 0 d) ∙ ap (λ l. get_or l 0 d) rest ∙ get_or-drop i old 0 d ∙ ap (λ k. get_or old k d) zero_more

  pub taken_more : take i now ≡ map f (take i old) → take (i + 1) (set now i y) ≡ map f (take (i + 1) old)
  taken_more taken =
      take_more (set now i y) i d (omega (arith, lt, length-set now i y))
      ∙ ap (λ l. l ++ get_or (set now i y) i d ∷ []) (take-set now i y ∙ taken)
      ∙ ap (λ z. map f (take i old) ++ z ∷ []) (get_or-set_same now i y d lt ∙ made ∙ ap f same)
      ∙ sym (map-append f (take i old) (get_or old i d ∷ []))
      ∙ ap (map f) (sym (take_more old i d within))

  pub left_more : drop (i + 1) (set now i y) ≡ drop (i + 1) old
  left_more = drop-set-lt (i + 1) now i y (omega arith) ∙ drop_more_same now old i rest
