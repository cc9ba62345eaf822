-- The words of a line, one by one.
use Rattle.script.proofs.Common.{◌≡◌, ◌<◌, ◌==◌, ◌+◌, ◌++◌, ◌∙◌, ℕ, Bool, List, [], ◌∷◌, Option, Some, None, IfSome, take, arith, ap, cond, false, true, length, not, refl, slice_index, sym, filter, position_or_len, before_first, after_first, slice_split, onto_first, FindsCharPrefix, CutsPrefixes, IsFullyTrimmed, IsTrimStartMatches, encode_ascii, length-take, nil_from_length, slice_split_first, drop_at_char, words_of}
use borrow.Author.Tests.{eqb-true, ne_eqb}

-- a space before a line adds no word
words_after_spaces : (s r ns : List ℕ) → CutsPrefixes (FindsCharPrefix 32) s ns r → words_of s ≡ words_of r
words_after_spaces s r [] h = ap words_of (sym h)
words_after_spaces s r (n ∷ ns) h =
    words_after_spaces s h.0 ns h.1 ∙ ap words_of (drop_at_char 32 h.0 0 n h.2 (omega arith)) ∙ ap words_of (sym h.3)

-- what is trimmed begins with no space
no_prefix : (b : ℕ) (bs : List ℕ) (o : Option ℕ) (t : Bool) → FindsCharPrefix 32 (b ∷ bs) o → IfSome o (λ n. n ≡ 0) → (b == 32) ≡ t → t ≡ false
no_prefix b bs o false h none e = refl
no_prefix b bs (Some n) true h none e = absurd (omega (arith, h.ends, none))
no_prefix b bs None true h none e = absurd (h bs (ap (λ x. x ∷ bs) (eqb-true b 32 e) ∙ ap (λ x. x ++ bs) (sym (encode_ascii 32 (omega arith)))))

no_space_first : (r : List ℕ) → IsFullyTrimmed (FindsCharPrefix 32) r → 0 < length r → (slice_index r 0 == 32) ≡ false
no_space_first [] h some = absurd (omega arith)
no_space_first (b ∷ bs) h some = no_prefix b bs h.0 (b == 32) h.1 h.2 refl

-- a text without a byte is one part
one_part_more : (c b : ℕ) (bs : List ℕ) (t : Bool)
    → cond (not t) (1 + position_or_len (λ x. x == c) bs) 0 ≡ length (b ∷ bs)
    → (position_or_len (λ x. x == c) bs ≡ length bs → slice_split (λ x. x == c) bs ≡ bs ∷ [])
    → cond t ([] ∷ slice_split (λ x. x == c) bs) (onto_first b (slice_split (λ x. x == c) bs)) ≡ (b ∷ bs) ∷ []
one_part_more c b bs true h one = absurd (omega arith)
one_part_more c b bs false h one = ap (onto_first b) (one (omega arith))

pub one_part : (c : ℕ) (s : List ℕ) → position_or_len (λ b. b == c) s ≡ length s
    → slice_split (λ b. b == c) s ≡ s ∷ []
one_part c [] h = refl
one_part c (b ∷ bs) h = one_part_more c b bs (b == c) h (one_part c bs)

-- a part that is not empty is a word
is_kept : (w : List ℕ) (parts : List (List ℕ)) → 0 < length w → filter (λ word. not (length word == 0)) (w ∷ parts) ≡ w ∷ filter (λ word. not (length word == 0)) parts
is_kept [] parts some = absurd (omega arith)
is_kept (x ∷ xs) parts some =
    let kept = filter (λ word. not (length word == 0)) parts in
    ap (λ empty. cond (not empty) ((x ∷ xs) ∷ kept) kept) (ne_eqb (length (x ∷ xs)) 0 (λ z. omega arith))

-- before the first space something stands, where no space stands first
some_before : (b : ℕ) (bs : List ℕ) (t : Bool) → t ≡ false → 0 < length (take (cond (not t) (1 + position_or_len (λ x. x == 32) bs) 0) (b ∷ bs))
some_before b bs true e = absurd (cc)
some_before b bs false e = omega (arith, length-take (1 + position_or_len (λ x. x == 32) bs) (b ∷ bs))

front_is_word : (r : List ℕ) → (slice_index r 0 == 32) ≡ false → 0 < length r → 0 < length (before_first (λ b. b == 32) r)
front_is_word [] e some = absurd (omega arith)
front_is_word (b ∷ bs) e some = some_before b bs (b == 32) e

pub last_word : (s r : List ℕ) → IsTrimStartMatches (FindsCharPrefix 32) s r → 0 < length r → position_or_len (λ b. b == 32) r ≡ length r → words_of s ≡ r ∷ []
last_word s r h some none =
    words_after_spaces s r h.0.0 h.0.1 ∙ ap (filter (λ word. not (length word == 0))) (one_part 32 r none) ∙ is_kept r [] some

pub next_word : (s r x after : List ℕ) → IsTrimStartMatches (FindsCharPrefix 32) s r → 0 < length r
    → (x ≡ before_first (λ b. b == 32) r) × (after ≡ after_first (λ b. b == 32) r) × (position_or_len (λ b. b == 32) r < length r) → words_of s ≡ x ∷ words_of after
next_word s r x after h some cut =
    words_after_spaces s r h.0.0 h.0.1
    ∙ ap (filter (λ word. not (length word == 0))) (slice_split_first (λ b. b == 32) r 0 cut.2)
    ∙ is_kept (before_first (λ b. b == 32) r) (slice_split (λ b. b == 32) (after_first (λ b. b == 32) r)) (front_is_word r (no_space_first r h.1 some) some)
    ∙ (λ i. sym cut.0 i ∷ words_of (sym cut.1 i))

pub no_word : (s r : List ℕ) → IsTrimStartMatches (FindsCharPrefix 32) s r → length r ≡ 0 → (words_of s ≡ []) × (words_of r ≡ [])
no_word s r h none = let empty : words_of r ≡ [] = ap words_of (nil_from_length r none) in (words_after_spaces s r h.0.0 h.0.1 ∙ empty, empty)

pub some_from_test : (r : List ℕ) → (length r == 0) ≡ false → 0 < length r
some_from_test [] e = absurd (cc)
some_from_test (b ∷ bs) e = omega arith
