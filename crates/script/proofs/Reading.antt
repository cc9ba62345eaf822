-- The lines that were read so far.
use Rattle.std.proofs.Common.{◌≡◌, ◌<◌, ◌≤◌, ◌+◌, ◌++◌, ◌==◌, ◌∙◌, ◌-◌, ◌^◌, min, ℕ, suc, Bool, List, [], ◌∷◌, All, arith, ap, cond, false, filter, length, map, refl, subst, sym, true}
use Rattle.script.proofs.Common.{AllZip, onto_first, slice_split, lines, lines_of_parts, length-map, append-nil, append_assoc, length-append, map-append, nil_from_length, All-nil, All-cons, filter-append, Line, Order, AreEvents, Asks, IsBad, IsFirstBad, IsLine, is_event, lines_of, trimmed, words_of}
use Rattle.script.proofs.Zipped.{all_zip_append}

-- this many texts were read, and the events among them are these
pub record SoFar (texts : List (List ℕ)) (read : List Line) (number : ℕ) : Type 0 where
  pub events : AreEvents texts read
  pub counted : number ≡ length texts

-- one more text, which is no event or is one
kept_more : (texts : List (List ℕ)) (text : List ℕ) (t : Bool) → is_event text ≡ t → filter is_event (texts ++ text ∷ []) ≡ filter is_event texts ++ cond t (text ∷ []) []
kept_more texts text t e = filter-append is_event texts (text ∷ []) ∙ ap (λ b. filter is_event texts ++ cond b (text ∷ []) []) e

pub passed_over : (texts : List (List ℕ)) (text : List ℕ) (read : List Line) (n m : ℕ) → SoFar texts read n → is_event text ≡ false → m ≡ n + 1
    → SoFar (texts ++ text ∷ []) read m
passed_over texts text read n m h none e = record {
  events = subst (λ xs. AllZip IsLine xs read) (sym (kept_more texts text false none ∙ append-nil (filter is_event texts))) h.events;
  counted = omega (arith, h.counted, length-append texts (text ∷ []));
}

pub read_one : (texts : List (List ℕ)) (text : List ℕ) (read more : List Line) (line : Line) (n m : ℕ) → SoFar texts read n → is_event text ≡ true → IsLine text line
    → more ≡ read ++ line ∷ [] → m ≡ n + 1 → SoFar (texts ++ text ∷ []) more m
read_one texts text read more line n m h some is pushed e = record {
  events =
      subst (λ ls. AllZip IsLine (filter is_event (texts ++ text ∷ [])) ls) (sym pushed)
      (subst (λ xs. AllZip IsLine xs (read ++ line ∷ [])) (sym (kept_more texts text true some)) (all_zip_append IsLine (filter is_event texts) read text line h.events is));
  counted = omega (arith, h.counted, length-append texts (text ∷ []));
}

-- what was read so far has no bad line
event_is_good : (text : List ℕ) (line : Line) → IsLine text line → ¬ (IsBad text)
event_is_good text line is bad = bad.1 line.order is.asked

good_at : (text : List ℕ) (texts : List (List ℕ)) (read : List Line) (t : Bool) → is_event text ≡ t → AllZip IsLine (cond t (text ∷ filter is_event texts) (filter is_event texts)) read
    → ((ls : List Line) → AreEvents texts ls → All (λ x. ¬ (IsBad x)) texts) → All (λ x. ¬ (IsBad x)) (text ∷ texts)
good_at text texts read false e h rest = All-cons (λ x. ¬ (IsBad x)) text texts (λ bad. absurd (cc (bad.0))) (rest read h)
good_at text texts [] true e h rest = absurd h
good_at text texts (line ∷ read) true e h rest = All-cons (λ x. ¬ (IsBad x)) text texts (event_is_good text line h.0) (rest read h.1)

all_good : (texts : List (List ℕ)) (read : List Line) → AreEvents texts read → All (λ text. ¬ (IsBad text)) texts
all_good [] read h = All-nil (λ x. ¬ (IsBad x))
all_good (text ∷ texts) read h = good_at text texts read (is_event text) refl h (λ ls. all_good texts ls)

pub first_bad : (script : List ℕ) (texts after : List (List ℕ)) (text : List ℕ) (read : List Line) (n m : ℕ) → SoFar texts read n → lines_of script ≡ texts ++ text ∷ after
    → is_event text ≡ true → ((order : Order) → ¬ (Asks (words_of text) order)) → m ≡ n + 1 → IsFirstBad script m
first_bad script texts after text read n m h split some none e = record {
  before = texts;
  bad = text;
  after = after;
  split = split;
  counted = omega (arith, h.counted);
  good = all_good texts read h.events;
  is_bad = (some, none);
}

-- a text has no more lines than bytes
one_at_most : (x : List ℕ) (t : Bool) → length (cond t [] (x ∷ [])) ≤ 1
one_at_most x true = omega arith
one_at_most x false = omega arith

lines_longer : (b n : ℕ) (parts : List (List ℕ)) → length (lines_of_parts parts) ≤ n → length (lines_of_parts (onto_first b parts)) ≤ n + 1
lines_longer b n [] h = omega (arith, one_at_most (b ∷ []) (length (b ∷ []) == 0))
lines_longer b n (x ∷ []) h = omega (arith, one_at_most (b ∷ x) (length (b ∷ x) == 0))
lines_longer b n (x ∷ y ∷ more) h = omega arith

line_before : (n : ℕ) (parts : List (List ℕ)) → length (lines_of_parts parts) ≤ n → length (lines_of_parts ([] ∷ parts)) ≤ n + 1
line_before n [] h = omega arith
line_before n (x ∷ more) h = omega arith

lines_by : (b : ℕ) (bs : List ℕ) (t : Bool) → length (lines bs) ≤ length bs
    → length (lines_of_parts (cond t ([] ∷ slice_split (λ x. x == 10) bs) (onto_first b (slice_split (λ x. x == 10) bs)))) ≤ length bs + 1
lines_by b bs true h = line_before (length bs) (slice_split (λ x. x == 10) bs) h
lines_by b bs false h = lines_longer b (length bs) (slice_split (λ x. x == 10) bs) h

pub lines_fit : (bs : List ℕ) → length (lines bs) ≤ length bs
lines_fit [] = omega arith
lines_fit (b ∷ bs) = omega (arith, lines_by b bs (b == 10) (lines_fit bs))

-- between two lines: those before the rest were read
pub record HasRead (text rest : List ℕ) (read : List Line) (number : ℕ) : Type 0 where
  pub passed : List (List ℕ)
  pub split : lines text ≡ passed ++ lines rest
  pub so_far : SoFar (map trimmed passed) read number

-- one more line is read
module _ (text rest line behind : List ℕ) (read : List Line) (n m : ℕ) (h : HasRead text rest read n)
    (first : lines rest ≡ line ∷ lines behind) (short : length text < 2 ^ 64) (counted : m ≡ min (n + 1) (2 ^ 64 - 1)) where
  next_number : m ≡ n + 1
  next_number =
      let whole : length (lines text) ≡ length h.passed + suc (length (lines behind)) =
      ap (λ (xs : List (List ℕ)). length xs) h.split ∙ length-append h.passed (lines rest)
      ∙ ap (λ (xs : List (List ℕ)). length h.passed + length xs) first in
      omega (arith, lines_fit text, h.so_far.counted, length-map h.passed trimmed, whole)

  moved : lines text ≡ (h.passed ++ line ∷ []) ++ lines behind
  moved = h.split ∙ ap (λ (xs : List (List ℕ)). h.passed ++ xs) first ∙ sym (append_assoc h.passed (line ∷ []) (lines behind))

  one_more : map trimmed (h.passed ++ line ∷ []) ≡ map trimmed h.passed ++ trimmed line ∷ []
  one_more = map-append trimmed h.passed (line ∷ [])

  pub read_past : is_event (trimmed line) ≡ false → HasRead text behind read m
  read_past none = record {
    passed = h.passed ++ line ∷ [];
    split = moved;
    so_far =
        subst (λ xs. SoFar xs read m) (sym one_more)
        (passed_over (map trimmed h.passed) (trimmed line) read n m h.so_far none next_number);
  }

  pub read_event : (more : List Line) (one : Line) → is_event (trimmed line) ≡ true → IsLine (trimmed line) one
      → more ≡ read ++ one ∷ [] → HasRead text behind more m
  read_event more one some is pushed = record {
    passed = h.passed ++ line ∷ [];
    split = moved;
    so_far =
        subst (λ xs. SoFar xs more m) (sym one_more)
        (read_one (map trimmed h.passed) (trimmed line) read more one n m h.so_far some is pushed next_number);
  }

  pub bad_line : is_event (trimmed line) ≡ true → ((order : Order) → ¬ (Asks (words_of (trimmed line)) order))
      → IsFirstBad text m
  bad_line some none =
      first_bad text (map trimmed h.passed) (map trimmed (lines behind)) (trimmed line) read n m h.so_far
      (ap (map trimmed) h.split ∙ map-append trimmed h.passed (lines rest)
      ∙ ap (λ (xs : List (List ℕ)). map trimmed h.passed ++ map trimmed xs) first)
      some none next_number

pub nothing_read : (text : List ℕ) (read : List Line) → read ≡ [] → HasRead text text read 0
nothing_read text read none = record {
  passed = [];
  split = refl;
  so_far = record { events = subst (λ rs. AllZip IsLine [] rs) (sym none) tt; counted = refl };
}

pub all_read : (text rest : List ℕ) (read : List Line) (n : ℕ) → HasRead text rest read n → length rest ≡ 0
    → AreEvents (lines_of text) read
all_read text rest read n h none =
    let whole : lines text ≡ h.passed =
    h.split ∙ ap (λ (xs : List ℕ). h.passed ++ lines xs) (nil_from_length rest none) ∙ append-nil h.passed in
    subst (λ texts. AreEvents texts read) (sym (ap (map trimmed) whole)) h.so_far.events
