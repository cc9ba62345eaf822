-- Texts that spell no label, and end with the sign of bytes that were not recorded or not.
use Rattle.std.proofs.Common.{◌≡◌, ◌++◌, ◌∙◌, ◌-◌, ◌<◌, IsUtf8, inl, ℕ, zero, suc, Bool, true, false, List, [], ◌∷◌, arith, refl, subst, sym, ap, drop, take, length, length-append}
use Rattle.std.specs.Prelude.{slice_index}
use Rattle.std.specs.Str.{bytes_eq}
use Rattle.std.proofs.lemmas.List.{append_cancel_right}
use Rattle.std.proofs.lemmas.List.Prefix.{end_rest}
use Rattle.std.specs.Str.{IsCharBoundary}
use Rattle.std.proofs.lemmas.Str.{IsCharBoundary-at_seam, IsUtf8-from_ascii, IsUtf8-take}
use Rattle.std.proofs.lemmas.Slice.Eq.{bytes_eq-Decides}
use Rattle.trace_line.specs.declared.Line.{Line}
use Rattle.label_text.specs.Lines.{Spells, is_told}
use Rattle.trace_reader.specs.declared.Recorded.{Recorded}
use Rattle.judging.specs.Told.{IsBad, Records, RecordsAs, has_no_bytes}

take_front : (front rest : List ℕ) → take (length front) (front ++ rest) ≡ front
take_front [] rest = refl
take_front (x ∷ front) rest = ap (λ xs. x ∷ xs) (take_front front rest)

abbrev pub HasNoGap : List ℕ → Type 0
HasNoGap text = (front : List ℕ) (line : Line) → text ≡ front ++ 32 ∷ 63 ∷ [] → Spells front line → has_no_bytes line.label ≡ true → ⊥

pub bad_so : (text : List ℕ) → is_told text ≡ true → ((other : Line) → ¬ (Spells text other)) → HasNoGap text → IsBad text
bad_so text told none gap = inl (told, λ r. by r.line r.untold)
  where
    by : (line : Line) (b : Bool) → RecordsAs text line b → ⊥
    by line false spells = none line spells
    by line true (front, is, spells, bare) = gap front line is spells bare

-- a line that ends with the sign
pub sign_there : (line front sign : List ℕ) (b : Bool) → line ≡ front ++ sign → b ≡ bytes_eq sign (32 ∷ 63 ∷ []) → b ≡ true → line ≡ front ++ 32 ∷ 63 ∷ []
sign_there line front sign b split same holds = split ∙ ap (λ (s : List ℕ). front ++ s) ((bytes_eq-Decides sign (32 ∷ 63 ∷ [])).0 (sym same ∙ holds))

-- one that doesn't
pub no_sign : (line sign : List ℕ) (b : Bool) → sign ≡ drop (length line - 2) line → b ≡ bytes_eq sign (32 ∷ 63 ∷ []) → b ≡ false → (front : List ℕ) → ¬ (line ≡ front ++ 32 ∷ 63 ∷ [])
no_sign line sign b back same differs front is =
    let sign_is : sign ≡ 32 ∷ 63 ∷ [] = back ∙ end_rest line (32 ∷ 63 ∷ []) front is in
    absurd (cc (sym differs ∙ same ∙ (bytes_eq-Decides sign (32 ∷ 63 ∷ [])).1 sign_is))

pub too_short : (line : List ℕ) → length line < 2 → (front : List ℕ) → ¬ (line ≡ front ++ 32 ∷ 63 ∷ [])
too_short line short front is = absurd (omega (arith, short, ap length is, length-append front (32 ∷ 63 ∷ [])))

-- there is no sign
pub no_gap : (text : List ℕ) → is_told text ≡ true → ((other : Line) → ¬ (Spells text other)) → ((front : List ℕ) → ¬ (text ≡ front ++ 32 ∷ 63 ∷ [])) → IsBad text
no_gap text told none no_sign = bad_so text told none (λ front line is spells bare. no_sign front is)

same_front : (a b : List ℕ) → a ++ 32 ∷ 63 ∷ [] ≡ b ++ 32 ∷ 63 ∷ [] → a ≡ b
same_front a b e = append_cancel_right a b (32 ∷ 63 ∷ []) e

sign_is_ascii : (i : ℕ) → slice_index (32 ∷ 63 ∷ []) i < 128
sign_is_ascii zero = omega arith
sign_is_ascii (suc zero) = omega arith
sign_is_ascii (suc (suc i)) = omega arith

-- before the sign stands text
pub no_text : (text front : List ℕ) → text ≡ front ++ 32 ∷ 63 ∷ [] → IsUtf8 text → ¬ (IsUtf8 front) → IsBad text
no_text text front is whole none =
    let seam : IsCharBoundary text (length front) = IsCharBoundary-at_seam text front (32 ∷ 63 ∷ []) is (IsUtf8-from_ascii (32 ∷ 63 ∷ []) sign_is_ascii) in
    let there : take (length front) text ≡ front = ap (take (length front)) is ∙ take_front front (32 ∷ 63 ∷ []) in
    absurd (none (subst IsUtf8 there (IsUtf8-take text (length front) whole seam)))

-- before the sign stands no line
pub no_front : (text front : List ℕ) → text ≡ front ++ 32 ∷ 63 ∷ [] → is_told text ≡ true → ((other : Line) → ¬ (Spells text other)) → ((line : Line) → ¬ (Spells front line)) → IsBad text
no_front text front is told none no_line =
    bad_so text told none (λ other line also spells bare. no_line line (subst (λ f. Spells f line) (same_front other front (sym also ∙ is)) spells))

-- before the sign stands a line that is not without bytes
pub other_front : (text front : List ℕ) (line : Line) → text ≡ front ++ 32 ∷ 63 ∷ [] → is_told text ≡ true → ((other : Line) → ¬ (Spells text other)) → ((other : Line) → Spells front other → other ≡ line)
    → has_no_bytes line.label ≡ false → IsBad text
other_front text front line is told none only some =
    bad_so text told none (λ f other also spells bare.
    let same : other ≡ line = only other (subst (λ g. Spells g other) (same_front f front (sym also ∙ is)) spells) in
    absurd (cc (sym bare ∙ ap (λ (l : Line). has_no_bytes l.label) same ∙ some)))
