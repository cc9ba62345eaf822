-- Digits to the end of a text.
use Rattle.std.proofs.Common.{◌≡◌, ◌<◌, ◌==◌, ◌⊎◌, ◌++◌, ◌∙◌, ℕ, Bool, true, false, List, [], ◌∷◌, Option, None, Some, ap, arith, cond, drop, inl, inr, length, refl, slice_get, subst, sym}
use Rattle.std.specs.List.{join_with_byte}
use Rattle.std.specs.Option.{option_and_then, option_map}
use Rattle.std.proofs.lemmas.Bool.Decides.{nat_tests}
use Rattle.std.proofs.lemmas.List.Elements.{All-cons, All-nil}
use Rattle.std.proofs.lemmas.List.Splits.{join_with_byte-slice_split}
use Rattle.label_text.specs.Runs.{hex_bytes}
use Rattle.label_text.specs.Lines.{Words}
use Rattle.label_text.specs.inside.Reading.{HasLeft, IsOther, at_end, bytes_at, bytes_in, bytes_of, digits_in, few_bytes, parted, runs_in, word_at}
use Rattle.label_text.proofs.Digits.{hex_bytes_above, hex_bytes_some}
use Rattle.label_text.proofs.Found.{end_some, first_is, if_none, then_some_of}
use Rattle.label_text.proofs.Parting.{IsFree, parts_again}
use Rattle.label_text.proofs.RunsRead.{free_of}

-- THE FIRST BYTE

-- a text begins as the first of its parts
joined_first : (c b : ℕ) (bs : List ℕ) (words : Words) → (more : List ℕ) × (join_with_byte c ((b ∷ bs) ∷ words) ≡ b ∷ more)
joined_first c b bs [] = (bs, refl)
joined_first c b bs (word ∷ words) = (bs ++ c ∷ join_with_byte c (word ∷ words), refl)

pub text_first : (c b : ℕ) (bs text : List ℕ) → word_at (parted c text) ≡ Some (b ∷ bs) → (more : List ℕ) × (text ≡ b ∷ more)
text_first c b bs text h =
    let is = joined_first c b bs (drop 1 (parted c text)) in
    (is.0, sym (join_with_byte-slice_split c text) ∙ ap (join_with_byte c) (first_is (parted c text) (b ∷ bs) h) ∙ is.1)

pub none_other : (c : ℕ) → IsOther c []
none_other c rest h = absurd (cc (h))

pub empty_other : (c separator : ℕ) (text : List ℕ) → length text ≡ 0 → IsOther c (parted separator text)
empty_other c separator text none rest h =
    let is = text_first separator c rest text h in
    let long : length (c ∷ is.0) ≡ 0 = sym (ap length is.1) ∙ none in
    absurd (omega (arith, long))

pub first_other : (c separator first : ℕ) (text behind : List ℕ) → text ≡ first ∷ behind → (first == c) ≡ false → IsOther c (parted separator text)
first_other c separator first text behind begins other rest h =
    let is = text_first separator c rest text h in
    let same : first ∷ behind ≡ c ∷ is.0 = sym begins ∙ is.1 in
    let one : first ≡ c = cc (same) in
    absurd (grind (arith, nat_tests, other, one))

-- DIGITS

-- what is one part
one_by : (separator : ℕ) (digits : List ℕ) → separator < 48 → IsFree separator digits → parted separator (120 ∷ digits) ≡ (120 ∷ digits) ∷ []
one_by separator digits small free =
    let other : (120 == separator) ≡ false = grind (arith, nat_tests, small) in
    parts_again separator ((120 ∷ digits) ∷ []) (omega arith) (All-cons (IsFree separator) (120 ∷ digits) [] (All-cons (λ b. (b == separator) ≡ false) 120 digits other free) (All-nil (IsFree separator)))

digits_free : (separator : ℕ) (digits bytes : List ℕ) → separator < 48 → digits_in digits ≡ Some bytes → IsFree separator digits
digits_free separator digits bytes small h =
    let some = if_none (length digits == 0) (option_and_then few_bytes (bytes_in digits)) bytes h in
    let found = then_some_of few_bytes (bytes_in digits) bytes some.1 in
    let is = hex_bytes_some digits found.0 found.1 in
    subst (IsFree separator) (sym is.0) (free_of separator (hex_bytes found.0) (omega (arith, small)) (hex_bytes_above found.0))

some_by : (separator : ℕ) (digits bytes : List ℕ) → separator < 48 → digits_in digits ≡ Some bytes → bytes_at (parted separator (120 ∷ digits)) ≡ Some bytes
some_by separator digits bytes small h = ap bytes_at (one_by separator digits small (digits_free separator digits bytes small h)) ∙ h

-- what is read of the first of several parts is none
read_whole : (separator : ℕ) (digits bytes : List ℕ) (o : Option (List ℕ)) → slice_get (parted separator (120 ∷ digits)) 0 ≡ o
    → elim o [ Some word ↦ at_end (drop 1 (parted separator (120 ∷ digits))) (bytes_of word) | None ↦ Some [] ] ≡ Some bytes
    → (parted separator (120 ∷ digits) ≡ []) ⊎ (digits_in digits ≡ Some bytes)
read_whole separator digits bytes None e h = inl (none_left (parted separator (120 ∷ digits)) e)
  where
    none_left : (words : Words) → slice_get words 0 ≡ None → words ≡ []
    none_left [] e = refl
    none_left (w ∷ ws) e = absurd (cc (e))
read_whole separator digits bytes (Some word) e h =
    let last = end_some (drop 1 (parted separator (120 ∷ digits))) (bytes_of word) bytes h in
    let all : parted separator (120 ∷ digits) ≡ word ∷ [] = first_is (parted separator (120 ∷ digits)) word e ∙ ap (λ l. word ∷ l) last.0 in
    let same : 120 ∷ digits ≡ word = sym (join_with_byte-slice_split separator (120 ∷ digits)) ∙ ap (join_with_byte separator) all in
    inr (ap bytes_of same ∙ last.1)

none_by : (separator : ℕ) (digits : List ℕ) (o : Option (List ℕ)) → bytes_at (parted separator (120 ∷ digits)) ≡ o → digits_in digits ≡ None → o ≡ None
none_by separator digits None e h = refl
none_by separator digits (Some bytes) e h = absurd (elim (read_whole separator digits bytes (slice_get (parted separator (120 ∷ digits)) 0) refl e) [
  | inl none ↦ (let one : 120 ∷ digits ≡ [] = sym (join_with_byte-slice_split separator (120 ∷ digits)) ∙ ap (join_with_byte separator) none in cc (one))
  | inr told ↦ cc (sym told ∙ h)
])

left_by : (separator : ℕ) (digits : List ℕ) (o : Option (List ℕ)) → separator < 48 → digits_in digits ≡ o → bytes_at (parted separator (120 ∷ digits)) ≡ o
left_by separator digits None small h = none_by separator digits (bytes_at (parted separator (120 ∷ digits))) refl h
left_by separator digits (Some bytes) small h = some_by separator digits bytes small h

pub digits_left : (words : Words) (digits : List ℕ) → HasLeft words (120 ∷ digits) → bytes_at words ≡ digits_in digits
digits_left words digits left = ap bytes_at left.parts ∙ left_by left.separator digits (digits_in digits) left.small refl

-- RUNS

runs_by : (word : List ℕ) → ((rest : List ℕ) → Some word ≡ Some (120 ∷ rest) → ⊥) → bytes_of word ≡ runs_in word
runs_by [] other = refl
runs_by (first ∷ behind) other = not_x (first == 120) refl
  where
    not_x : (t : Bool) → (first == 120) ≡ t → cond t (digits_in behind) (runs_in (first ∷ behind)) ≡ runs_in (first ∷ behind)
    not_x true e = let same : first ≡ 120 = grind (arith, nat_tests, e) in absurd (other behind (ap (λ b. Some (b ∷ behind)) same))
    not_x false e = refl

-- a word of runs
pub runs_left : (words : Words) (word : List ℕ) → IsOther 120 words → word_at words ≡ Some word → bytes_at words ≡ at_end (drop 1 words) (runs_in word)
runs_left words word other is =
    ap (λ o. elim o [ Some word ↦ at_end (drop 1 words) (bytes_of word) | None ↦ Some [] ]) is
    ∙ ap (at_end (drop 1 words)) (runs_by word (λ rest same. other rest (is ∙ same)))

-- WHAT WAS DECODED

pub none_read : {V : Type 0} (items : V → List ℕ) (found : Option V) (words : Words) (digits : List ℕ) → found ≡ None → option_map items found ≡ digits_in digits → HasLeft words (120 ∷ digits)
    → None ≡ bytes_at words
none_read items found words digits none told left = sym (ap (option_map items) none) ∙ told ∙ sym (digits_left words digits left)

pub some_read : {V : Type 0} (items : V → List ℕ) (found : Option V) (v : V) (words : Words) (digits bytes : List ℕ) → found ≡ Some v → bytes ≡ items v → option_map items found ≡ digits_in digits
    → HasLeft words (120 ∷ digits) → Some bytes ≡ bytes_at words
some_read items found v words digits bytes some is told left = ap (λ l. Some l) is ∙ sym (ap (option_map items) some) ∙ told ∙ sym (digits_left words digits left)
