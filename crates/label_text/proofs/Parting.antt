-- The parts of a text, and the text of parts.
use Rattle.std.proofs.Common.{◌≡◌, ◌<◌, ◌==◌, ◌+◌, ◌∙◌, ℕ, Bool, List, [], ◌∷◌, All, arith, ap, cond, false, true, length, not, refl, rules, sym}
use Rattle.std.specs.List.{position_or_len, before_first, after_first, onto_first, join_with_byte}
use Rattle.std.proofs.lemmas.List.Splits.{slice_split_at, slice_split_first, slice_split_none}
use Rattle.std.proofs.lemmas.List.Elements.{All-head, All-tail}
use Rattle.label_text.specs.inside.Reading.{parted}

-- the byte stands nowhere in a part
abbrev pub IsFree : ℕ → List ℕ → Type 0
IsFree c part = All (λ b. (b == c) ≡ false) part

same_byte : (c : ℕ) → (c == c) ≡ true
same_byte c = search rules

-- parts without the byte that joins them are the parts of their text
pub parts_again : (c : ℕ) (parts : List (List ℕ)) → 0 < length parts → All (IsFree c) parts → parted c (join_with_byte c parts) ≡ parts
parts_again c [] some free = absurd (omega arith)
parts_again c (part ∷ []) some free = slice_split_none (λ b. b == c) part (All-head (IsFree c) part [] free)
parts_again c (part ∷ next ∷ parts) some free =
    slice_split_at (λ b. b == c) part c (join_with_byte c (next ∷ parts)) (All-head (IsFree c) part (next ∷ parts) free) (same_byte c)
    ∙ ap (λ more. part ∷ more) (parts_again c (next ∷ parts) (omega arith) (All-tail (IsFree c) part (next ∷ parts) free))

-- a text without the byte is one part
one_part_more : (c b : ℕ) (bs : List ℕ) (t : Bool) → cond (not t) (1 + position_or_len (λ x. x == c) bs) 0 ≡ length (b ∷ bs)
    → (position_or_len (λ x. x == c) bs ≡ length bs → parted c bs ≡ bs ∷ [])
    → cond t ([] ∷ parted c bs) (onto_first b (parted c bs)) ≡ (b ∷ bs) ∷ []
one_part_more c b bs true h one = absurd (omega arith)
one_part_more c b bs false h one = ap (onto_first b) (one (omega arith))

pub one_part : (c : ℕ) (text : List ℕ) → position_or_len (λ b. b == c) text ≡ length text → parted c text ≡ text ∷ []
one_part c [] h = refl
one_part c (b ∷ bs) h = one_part_more c b bs (b == c) h (one_part c bs)

-- the first part and those behind it
pub first_part : (c : ℕ) (text part after : List ℕ)
    → (part ≡ before_first (λ b. b == c) text) × (after ≡ after_first (λ b. b == c) text) × (position_or_len (λ b. b == c) text < length text)
    → parted c text ≡ part ∷ parted c after
first_part c text part after cut =
    slice_split_first (λ b. b == c) text 0 cut.2 ∙ (λ i. sym cut.0 i ∷ parted c (sym cut.1 i))

-- some part there always is
some_part_by : (b : ℕ) (bs : List (List ℕ)) (t : Bool) → 0 < length (cond t ([] ∷ bs) (onto_first b bs))
some_part_by b bs true = omega arith
some_part_by b [] false = omega arith
some_part_by b (x ∷ bs) false = omega arith

pub some_part : (c : ℕ) (text : List ℕ) → 0 < length (parted c text)
some_part c [] = omega arith
some_part c (b ∷ bs) = some_part_by b (parted c bs) (b == c)
