-- The lines of an input that were read so far, as parts of its text.
use Rattle.std.proofs.Common.{◌≡◌, ◌≢◌, ◌<◌, ◌≤◌, ◌+◌, ◌++◌, ◌==◌, ◌∙◌, ◌-◌, MatchBool, Option, None, Some, ℕ, suc, Bool, List, [], ◌∷◌, All, IfSome, arith, ap, append_assoc, append-nil, cond, drop, drop_at, eq-eqb, eqb-true, eqb, false, length, length-append, ne_eqb, refl, slice_index, subst, sym, take, take_all, take_at, true, get_or, get_or-append-add, IsUtf8}
use Rattle.std.specs.List.{slice_split}
use Rattle.std.specs.Io.{StopsAt}
use Rattle.std.specs.Io.KnownBytes.{Consumes, IsAtEnd}
use Rattle.std.specs.Io.BufRead.{take_through, drop_through, DropsThrough}
use Rattle.std.specs.Str.Lines.{lines, lines_of_parts, strip_carriage_return}
use Rattle.std.proofs.lemmas.List.{take_more}
use Rattle.std.proofs.lemmas.List.Elements.{All-nil, All-cons, All-head, All-tail, All-append}
use Rattle.std.proofs.lemmas.List.Splits.{slice_split_at, slice_split_none, length-slice_split}
use Rattle.std.proofs.lemmas.Str.{IsCharBoundary-after_ascii, IsCharBoundary-before_ascii, IsUtf8-drop, IsUtf8-take}
use Rattle.startup.specs.Reading.{IsAllOf}
use Rattle.judging.specs.inside.Reading.{IsEnded}

-- no byte is a line feed
abbrev pub HasNoFeed : List ℕ → Type 0
HasNoFeed line = All (λ b. b ≢ 10) line

is_feed : ℕ → Bool
is_feed b = b == 10

no_feeds : (line : List ℕ) → HasNoFeed line → All (λ b. (b == 10) ≡ false) line
no_feeds [] h = All-nil (λ b. (b == 10) ≡ false)
no_feeds (b ∷ line) h =
    All-cons (λ c. (c == 10) ≡ false) b line (ne_eqb b 10 (All-head (λ c. c ≢ 10) b line h)) (no_feeds line (All-tail (λ c. c ≢ 10) b line h))

-- what stops at its first line feed has none before its end
pub none_before : (front : List ℕ) → StopsAt (front ++ 10 ∷ []) 10 → HasNoFeed front
none_before front h =
    let long : length (front ++ 10 ∷ []) - 1 ≡ length front = omega (arith, length-append front (10 ∷ [])) in
    subst HasNoFeed (ap (λ n. take n (front ++ 10 ∷ [])) long ∙ take_at front (10 ∷ []) (length front) refl) h

-- a line's last byte
last_of : (line : List ℕ) → 0 < length line → line ≡ take (length line - 1) line ++ get_or line (length line - 1) 0 ∷ []
last_of line some = sym (take_all (length line - 1 + 1) line (omega arith)) ∙ take_more line (length line - 1) 0 (omega arith)

pub none_at_all : (line : List ℕ) → StopsAt line 10 → ¬ (IsEnded line) → HasNoFeed line
none_at_all [] h last = All-nil (λ b. b ≢ 10)
none_at_all (b ∷ more) h last =
    let line = b ∷ more in
    let front = take (length line - 1) line in
    let end = get_or line (length line - 1) 0 in
    let split : line ≡ front ++ end ∷ [] = last_of line (omega arith) in
    let other : end ≢ 10 = λ e. last (front, split ∙ ap (λ x. front ++ x ∷ []) e) in
    subst HasNoFeed (sym split) (All-append (λ x. x ≢ 10) front (end ∷ []) h (All-cons (λ x. x ≢ 10) end [] other (All-nil (λ x. x ≢ 10))))

-- the lines of a text that begins with this one
by_parts : (x : List ℕ) (parts : List (List ℕ)) → 0 < length parts → lines_of_parts (x ∷ parts) ≡ strip_carriage_return x ∷ lines_of_parts parts
by_parts x [] some = absurd (omega arith)
by_parts x (y ∷ more) some = refl

first_line : (front rest : List ℕ) → HasNoFeed front → lines (front ++ 10 ∷ rest) ≡ strip_carriage_return front ∷ lines rest
first_line front rest none =
    ap lines_of_parts (slice_split_at (λ b. b == 10) front 10 rest (no_feeds front none) refl)
    ∙ by_parts front (slice_split (λ b. b == 10) rest) (omega (arith, length-slice_split (λ b. b == 10) rest))

last_line : (line : List ℕ) → HasNoFeed line → 0 < length line → lines line ≡ line ∷ []
last_line line none some =
    ap lines_of_parts (slice_split_none (λ b. b == 10) line (no_feeds line none))
    ∙ ap (λ b. cond b [] (line ∷ [])) (ne_eqb (length line) 0 (λ e. omega arith))

-- these bytes are lines, each with its end, whatever follows
abbrev pub AreLines : List ℕ → List (List ℕ) → Type 0
AreLines text texts = (rest : List ℕ) → lines (text ++ rest) ≡ texts ++ lines rest

pub no_lines : AreLines [] []
no_lines rest = refl

pub one_line : (text front : List ℕ) (texts : List (List ℕ)) → AreLines text texts → HasNoFeed front → AreLines (text ++ (front ++ 10 ∷ [])) (texts ++ strip_carriage_return front ∷ [])
one_line text front texts h none rest =
    ap lines (append_assoc text (front ++ 10 ∷ []) rest) ∙ h ((front ++ 10 ∷ []) ++ rest)
    ∙ ap (λ l. texts ++ l) (ap lines (append_assoc front (10 ∷ []) rest) ∙ first_line front rest none)
    ∙ sym (append_assoc texts (strip_carriage_return front ∷ []) (lines rest))

-- all lines, and the last
pub all_lines : (text : List ℕ) (texts : List (List ℕ)) → AreLines text texts → lines text ≡ texts
all_lines text texts h = ap lines (sym (append-nil text)) ∙ h [] ∙ append-nil texts

pub with_last : (text line : List ℕ) (texts : List (List ℕ)) → AreLines text texts → HasNoFeed line → 0 < length line → lines (text ++ line) ≡ texts ++ line ∷ []
with_last text line texts h none some = h line ∙ ap (λ l. texts ++ l) (last_line line none some)

-- what was taken of an input
pub taken_both : (a b c : Option (List ℕ)) (x y : List ℕ) → Consumes a b x → Consumes b c y → Consumes a c (x ++ y)
taken_both None b c x y first second = tt
taken_both (Some xs) None c x y first second = absurd first
taken_both (Some xs) (Some ys) None x y first second = absurd second
taken_both (Some xs) (Some ys) (Some zs) x y first second = first ∙ ap (λ l. x ++ l) second ∙ sym (append_assoc x y zs)

pub taken_none : (a : Option (List ℕ)) → Consumes a a []
taken_none None = tt
taken_none (Some xs) = refl

pub taken_all : (a b c : Option (List ℕ)) (x y : List ℕ) → Consumes a b x → Consumes b c y → IfSome b (λ _. IsAtEnd c) → IsAllOf a (x ++ y)
taken_all None b c x y first second end = tt
taken_all (Some xs) None c x y first second end = absurd first
taken_all (Some xs) (Some ys) None x y first second end = absurd second
taken_all (Some xs) (Some ys) (Some zs) x y first second end =
    sym (first ∙ ap (λ l. x ++ l) (second ∙ ap (λ l. y ++ l) end ∙ append-nil y))

-- all that an input has, of which these lines come first
pub record BeginsWith (start : Option (List ℕ)) (texts : List (List ℕ)) : Type 0 where
  pub all : List ℕ
  pub is_all : IsAllOf start all
  pub behind : List (List ℕ)
  pub split : lines all ≡ texts ++ behind

pub begins_with : (start now : Option (List ℕ)) (text : List ℕ) (texts : List (List ℕ)) → Consumes start now text → AreLines text texts → BeginsWith start texts
begins_with None now text texts taken h = record { all = text; is_all = tt; behind = lines []; split = ap lines (sym (append-nil text)) ∙ h [] }
begins_with (Some xs) None text texts taken h = absurd taken
begins_with (Some xs) (Some ys) text texts taken h = record { all = xs; is_all = refl; behind = lines ys; split = ap lines taken ∙ h ys }

-- behind a line without a feed nothing is left
behind_one : (x : ℕ) (xs : List ℕ) (b : Bool) → (x == 10) ≡ b → (¬ (IsEnded (take_through 10 xs)) → drop_through 10 xs ≡ [])
    → ¬ (IsEnded (cond b (x ∷ []) (x ∷ take_through 10 xs))) → cond b xs (drop_through 10 xs) ≡ []
behind_one x xs true e again none = absurd (none ([], ap (λ y. y ∷ []) (eqb-true x 10 e)))
behind_one x xs false e again none = again (λ ended. none (x ∷ ended.0, ap (λ l. x ∷ l) ended.1))

left_behind : (xs : List ℕ) → ¬ (IsEnded (take_through 10 xs)) → drop_through 10 xs ≡ []
left_behind [] none = refl
left_behind (x ∷ xs) none = behind_one x xs (x == 10) refl (λ h. left_behind xs h) none

pub at_last : (a b : Option (List ℕ)) (old line : List ℕ) → old ≡ [] → IfSome a (λ xs. line ≡ old ++ take_through 10 xs) → DropsThrough a b 10 → ¬ (IsEnded line)
    → IfSome a (λ _. IsAtEnd b)
at_last None b old line none is rest no_end = tt
at_last (Some xs) b old line none is rest no_end =
    subst IsAtEnd (sym rest) (left_behind xs (λ ended. no_end (subst IsEnded (sym (is ∙ ap (λ l. l ++ take_through 10 xs) none)) ended)))

-- what the tests of a line tell
pub no_bytes : (line : List ℕ) (n : ℕ) (b : Bool) → b ≡ (n == 0) → b ≡ true → length line ≡ n → line ≡ []
no_bytes [] n b is so long = refl
no_bytes (x ∷ line) n b is so long = absurd (omega (arith, long, eqb-true n 0 (sym is ∙ so)))

pub some_bytes : (line : List ℕ) (n : ℕ) (b : Bool) → b ≡ (n == 0) → b ≡ false → length line ≡ n → 0 < length line
some_bytes [] n b is so long = absurd (cc (so, is ∙ eq-eqb n 0 (sym long)))
some_bytes (x ∷ line) n b is so long = omega arith

module _ (slice line : List ℕ) (same : slice ≡ line) where
  pub ended_so : (b : Bool) → MatchBool b (IsEnded slice) (¬ (IsEnded slice)) → b ≡ true → IsEnded line
  ended_so true is so = subst IsEnded same is
  ended_so false is so = absurd (cc (so))

  pub not_ended : (b : Bool) → MatchBool b (IsEnded slice) (¬ (IsEnded slice)) → b ≡ false → ¬ (IsEnded line)
  not_ended true is so = absurd (cc (so))
  not_ended false is so = λ ended. is (subst IsEnded (sym same) ended)

  pub ended_is : (b : Bool) → MatchBool b (IsEnded slice) (¬ (IsEnded slice)) → MatchBool b (IsEnded line) (¬ (IsEnded line))
  ended_is true is = subst IsEnded same is
  ended_is false is = λ ended. is (subst IsEnded (sym same) ended)

  pub bare : (stripped : List ℕ) → ((front : List ℕ) → slice ≡ front ++ 10 ∷ [] → stripped ≡ strip_carriage_return front) → (ended : IsEnded line)
      → stripped ≡ strip_carriage_return ended.0
  bare stripped is ended = is ended.0 (same ∙ ended.1)

  pub bare_last : (stripped : List ℕ) → (¬ (IsEnded slice) → stripped ≡ slice) → ¬ (IsEnded line) → stripped ≡ line
  bare_last stripped is no_end = is (λ ended. no_end (subst IsEnded same ended)) ∙ same
