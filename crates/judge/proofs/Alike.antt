-- Lists with the same items.
use Rattle.std.proofs.Common.{◌≡◌, ◌<◌, ◌⊎◌, inl, inr, ℕ, ◌+◌, List, [], ◌∷◌, ◌++◌, sym, ◌∙◌, ap, subst, arith, length, get_or, take}
use Rattle.std.specs.Prelude.{Contains}
use Rattle.std.proofs.lemmas.List.Elements.{Contains-append_left, Contains-push, Contains-push_cases}
use Rattle.machine.specs.State.{State}
use Rattle.judge.specs.Following.{AreAlike, AddsOnce}
use Rattle.std.proofs.lemmas.List.{take_more, take_all}

module _ {X : Type 0} (a b : List X) where
  -- one item more
  pub more_alike : (i : ℕ) (x y : X) → i < length a → i < length b → x ≡ get_or a i x → y ≡ get_or b i y → x ≡ y → take i a ≡ take i b → take (i + 1) a ≡ take (i + 1) b
  more_alike i x y low low' is is' same before =
      take_more a i x low ∙ ap (λ z. take i a ++ z ∷ []) (sym is ∙ same ∙ is') ∙ ap (λ zs. zs ++ get_or b i y ∷ []) before ∙ sym (take_more b i y low')

  pub all_alike : (n : ℕ) → length a ≡ length b → n ≡ length a → take n a ≡ take n b → a ≡ b
  all_alike n same is e = sym (take_all n a (omega arith)) ∙ e ∙ take_all n b (omega arith)

pub alike_self : (states : List State) → AreAlike states states
alike_self states = record { kept = λ s c. c; given = λ s c. c }

module _ (ys once : List State) (m : State) where
  pub added : (after : List State) → AddsOnce once m after → AreAlike ys once → AreAlike (ys ++ m ∷ []) after
  added after (inl e) h = subst (λ xs. AreAlike (ys ++ m ∷ []) xs) (sym e) (record {
    kept = λ s c. kept s (Contains-push_cases ys m s c);
    given = λ s c. given s (Contains-push_cases once m s c);
  })
    where
      kept : (s : State) → Contains ys s ⊎ (m ≡ s) → Contains (once ++ m ∷ []) s
      kept s (inl c) = Contains-append_left once (m ∷ []) s (h.kept s c)
      kept s (inr e) = subst (λ x. Contains (once ++ m ∷ []) x) e (Contains-push once m)

      given : (s : State) → Contains once s ⊎ (m ≡ s) → Contains (ys ++ m ∷ []) s
      given s (inl c) = Contains-append_left ys (m ∷ []) s (h.given s c)
      given s (inr e) = subst (λ x. Contains (ys ++ m ∷ []) x) e (Contains-push ys m)
  added after (inr e) h = subst (λ xs. AreAlike (ys ++ m ∷ []) xs) (sym e.1) (record {
    kept = λ s c. kept s (Contains-push_cases ys m s c);
    given = λ s c. Contains-append_left ys (m ∷ []) s (h.given s c);
  })
    where
      kept : (s : State) → Contains ys s ⊎ (m ≡ s) → Contains once s
      kept s (inl c) = h.kept s c
      kept s (inr f) = subst (λ x. Contains once x) f e.0
