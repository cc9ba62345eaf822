-- What is left of a text without the spaces at its ends.
use Rattle.script.proofs.Common.{◌≡◌, ◌==◌, ◌-◌, ◌++◌, ◌∙◌, ℕ, Bool, List, [], ◌∷◌, Option, None, Some, IfSome, arith, ap, cond, false, length, refl, reverse, sym, take, true, CutsPrefixes, CutsSuffixes, FindsCharPrefix, FindsCharSuffix, IsFullyTrimmed, IsTrimEndMatches, IsTrimStartMatches, drop_all, reverse-append, reverse-reverse, take-append-drop, encode_ascii, drop_at_char, trimmed, without_spaces}
use borrow.Author.Tests.{eqb-true}

cut_before : (s r ns : List ℕ) → CutsPrefixes (FindsCharPrefix 32) s ns r → without_spaces s ≡ without_spaces r
cut_before s r [] h = ap without_spaces (sym h)
cut_before s r (n ∷ ns) h =
    cut_before s h.0 ns h.1 ∙ ap without_spaces (drop_at_char 32 h.0 0 n h.2 (omega arith)) ∙ ap without_spaces (sym h.3)

-- a text that is fully trimmed stays
stays_before : (b : ℕ) (bs : List ℕ) (o : Option ℕ) (t : Bool) → FindsCharPrefix 32 (b ∷ bs) o → IfSome o (λ n. n ≡ 0) → (b == 32) ≡ t
    → cond t (without_spaces bs) (b ∷ bs) ≡ b ∷ bs
stays_before b bs o false h none e = refl
stays_before b bs (Some n) true h none e = absurd (omega (arith, h.ends, none))
stays_before b bs None true h none e = absurd (h bs (ap (λ x. x ∷ bs) (eqb-true b 32 e) ∙ ap (λ x. x ++ bs) (sym (encode_ascii 32 (omega arith)))))

trim_start_is : (s r : List ℕ) → IsTrimStartMatches (FindsCharPrefix 32) s r → without_spaces s ≡ r
trim_start_is s [] h = cut_before s [] h.0.0 h.0.1
trim_start_is s (b ∷ bs) h = cut_before s (b ∷ bs) h.0.0 h.0.1 ∙ stays_before b bs h.1.0 (b == 32) h.1.1 h.1.2 refl

-- the space at the end of a text, from which n bytes were cut
last_space : (m : List ℕ) (n : ℕ) → FindsCharSuffix 32 m (Some n) → m ≡ take (length m - n) m ++ 32 ∷ []
last_space m n h =
    sym (take-append-drop (length m - n) m)
    ∙ ap (λ xs. take (length m - n) m ++ xs) (drop_at_char 32 m (length m - n) (length m) h.1 (omega arith) ∙ ap (λ xs. 32 ∷ xs) (drop_all (length m) m (omega arith)))

cut_after : (s r ns : List ℕ) → CutsSuffixes (FindsCharSuffix 32) s ns r → without_spaces (reverse s) ≡ without_spaces (reverse r)
cut_after s r [] h = ap (λ xs. without_spaces (reverse xs)) (sym h)
cut_after s r (n ∷ ns) h =
    cut_after s h.0 ns h.1
    ∙ ap without_spaces (ap reverse (last_space h.0 n h.2) ∙ reverse-append (take (length h.0 - n) h.0) (32 ∷ []))
    ∙ ap (λ xs. without_spaces (reverse xs)) (sym h.3)

stays_after : (r : List ℕ) (b : ℕ) (bs : List ℕ) (o : Option ℕ) (t : Bool) → reverse r ≡ b ∷ bs → FindsCharSuffix 32 r o → IfSome o (λ n. n ≡ 0) → (b == 32) ≡ t
    → cond t (without_spaces bs) (b ∷ bs) ≡ b ∷ bs
stays_after r b bs o false back h none e = refl
stays_after r b bs (Some n) true back h none e = absurd (omega (arith, h.0, none))
stays_after r b bs None true back h none e =
    absurd (h (reverse bs) (sym (reverse-reverse r) ∙ ap reverse (back ∙ ap (λ x. x ∷ bs) (eqb-true b 32 e)) ∙ reverse-append (32 ∷ []) bs ∙ ap (λ x. reverse bs ++ x) (sym (encode_ascii 32 (omega arith)))))

trim_end_as : (r backward : List ℕ) → reverse r ≡ backward → IsFullyTrimmed (FindsCharSuffix 32) r → without_spaces backward ≡ backward
trim_end_as r [] back h = refl
trim_end_as r (b ∷ bs) back h = stays_after r b bs h.0 (b == 32) back h.1 h.2 refl

pub trim_is : (s m r : List ℕ) → IsTrimStartMatches (FindsCharPrefix 32) s m → IsTrimEndMatches (FindsCharSuffix 32) m r → r ≡ trimmed s
trim_is s m r start end =
    sym (reverse-reverse r)
    ∙ ap reverse (sym (trim_end_as r (reverse r) refl end.1) ∙ sym (cut_after m r end.0.0 end.0.1))
    ∙ ap (λ xs. reverse (without_spaces (reverse xs))) (sym (trim_start_is s m start))
