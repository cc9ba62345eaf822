-- A text that is cut at a byte, and its first line.
use Rattle.script.proofs.Common.{◌≡◌, ◌<◌, ◌==◌, ◌+◌, ◌∙◌, ℕ, Bool, Bor, List, [], ◌∷◌, Option, Some, None, cond, not, length, get_or, arith, ap, refl, subst, sym, after_first, before_first, position, position_or_len, slice_split, IsCharBoundary, IsUtf8, lines, lines_of_parts, strip_carriage_return, common_steps, passes_at_first, prefix_len-le-length, length-slice_split, slice_split_first, IsCharBoundary-after_ascii, IsCharBoundary-before_ascii, IsCut}
use borrow.Author.Tests.{eqb-true, ne_eqb}
use Rattle.script.proofs.Parted.{one_part}

pub none_there : (p : ℕ → Bool) (text : List ℕ) → None ≡ position p text → position_or_len p text ≡ length text
none_there p text found =
    let most = prefix_len-le-length (λ x. not (p x)) text in
    grind (arith, common_steps)

pub place_is : (p : ℕ → Bool) (text : List ℕ) (at : ℕ) → Some at ≡ position p text
    → (position_or_len p text ≡ at) × (at < length text)
place_is p text at found = (grind (arith, common_steps), grind (arith, common_steps))

pub byte_there : (byte : ℕ) (text : List ℕ) (at : ℕ) → Some at ≡ position (λ b. b == byte) text
    → get_or text at 0 ≡ byte
byte_there byte text at found =
    let place = place_is (λ b. b == byte) text at found in
    let within : position_or_len (λ b. b == byte) text < length text = omega (arith, place.0, place.1) in
    let passes = passes_at_first (λ b. b == byte) text 0 within in
    subst (λ k. get_or text k 0 ≡ byte) place.0 (eqb-true (get_or text (position_or_len (λ b. b == byte) text) 0) byte passes)

-- a text is not cut where the byte is not found
pub not_cut : (byte : ℕ) (text : List ℕ) (parts : Option (Bor (List ℕ) × Bor (List ℕ))) → parts ≡ None
    → None ≡ position (λ b. b == byte) text → IsCut byte text parts
not_cut byte text parts none found =
    subst (IsCut byte text) (sym none) (none_there (λ b. b == byte) text found)

-- before an ASCII byte and behind it a text may be cut
pub cut_before : (byte : ℕ) (text : List ℕ) (at : ℕ) → byte < 128 → Some at ≡ position (λ b. b == byte) text
    → IsCharBoundary text at
cut_before byte text at ascii found =
    IsCharBoundary-before_ascii text at (place_is (λ b. b == byte) text at found).1
    (omega (arith, ascii, byte_there byte text at found))

pub cut_behind : (byte : ℕ) (text : List ℕ) (at : ℕ) → IsUtf8 text → byte < 128
    → Some at ≡ position (λ b. b == byte) text → IsCharBoundary text (at + 1)
cut_behind byte text at utf8 ascii found =
    IsCharBoundary-after_ascii text at utf8 (place_is (λ b. b == byte) text at found).1
    (omega (arith, ascii, byte_there byte text at found))

-- lines
parts_cons : (x : List ℕ) (parts : List (List ℕ)) → 0 < length parts
    → lines_of_parts (x ∷ parts) ≡ strip_carriage_return x ∷ lines_of_parts parts
parts_cons x [] l = absurd (omega arith)
parts_cons x (y ∷ more) l = refl

pub first_of_more : (text : List ℕ) → position_or_len (λ b. b == 10) text < length text
    → lines text ≡ strip_carriage_return (before_first (λ b. b == 10) text) ∷ lines (after_first (λ b. b == 10) text)
first_of_more text within =
    let front = before_first (λ b. b == 10) text in
    let behind = after_first (λ b. b == 10) text in
    ap lines_of_parts (slice_split_first (λ b. b == 10) text 0 within)
    ∙ parts_cons front (slice_split (λ b. b == 10) behind) (omega (arith, length-slice_split (λ b. b == 10) behind))

pub only_line : (text : List ℕ) → 0 < length text → position_or_len (λ b. b == 10) text ≡ length text
    → lines text ≡ text ∷ lines []
only_line text some none =
    ap lines_of_parts (one_part 10 text none)
    ∙ ap (λ t. cond t [] (text ∷ [])) (ne_eqb (length text) 0 (λ z. omega (arith, some, z)))
