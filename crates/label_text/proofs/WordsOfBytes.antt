-- The word of some bytes, in runs or in digits.
use Rattle.std.proofs.Common.{◌≡◌, ◌≤◌, ◌<◌, ◌^◌, ◌+◌, ◌/◌, ◌%◌, ◌==◌, ◌++◌, ◌∙◌, ℕ, Bool, true, false, List, [], ◌∷◌, None, Some, All, ap, arith, cond, length, refl, subst, sym}
use Rattle.std.specs.Fmt.{decimal}
use Rattle.std.specs.Option.{option_and_then}
use Rattle.std.proofs.lemmas.Bool.{false_from_ne_true}
use Rattle.std.proofs.lemmas.Bool.Decides.{nat_tests}
use Rattle.std.proofs.lemmas.List.Elements.{All-cons, All-nil, All-head, All-tail, All-weaker}
use Rattle.label_text.specs.Runs.{AreBytes, IsShort, Run, digit_of, digits_text, hex_bytes, joined, most_bytes, runs_of, runs_text}
use Rattle.label_text.specs.Lines.{Form, InRuns, InDigits, bytes_words}
use Rattle.label_text.specs.inside.Reading.{bytes_in, bytes_of, digits_in, few_bytes, runs_in}
use Rattle.label_text.proofs.Digits.{hex_bytes_is, hex_bytes_some}
use Rattle.label_text.proofs.Filling.{bytes_long}
use Rattle.label_text.proofs.Found.{if_none, then_some_of}
use Rattle.label_text.proofs.LongestRuns.{run}
use Rattle.label_text.proofs.RunsRead.{few_is, few_some, runs_is, runs_some}

-- EACH BYTE, AND EACH RUN

abbrev IsByte : ℕ → Type 0
IsByte b = b < 2 ^ 8

joined_by : (b : ℕ) (r : Run) (runs : List Run) (t : Bool) → (r.byte == b) ≡ t → All IsShort (cond t (run b (r.count + 1) ∷ runs) (run b 1 ∷ r ∷ runs)) → IsByte b × All IsShort (r ∷ runs)
joined_by b r runs true same h =
    let first = All-head IsShort (run b (r.count + 1)) runs h in
    let byte : r.byte < 2 ^ 8 = grind (arith, nat_tests, same, first.byte) in
    (first.byte, All-cons IsShort r runs (record { byte = byte; count = omega (arith, first.count) }) (All-tail IsShort (run b (r.count + 1)) runs h))
joined_by b r runs false same h = ((All-head IsShort (run b 1) (r ∷ runs) h).byte, All-tail IsShort (run b 1) (r ∷ runs) h)

joined_parts : (b : ℕ) (runs : List Run) → All IsShort (joined b runs) → IsByte b × All IsShort runs
joined_parts b [] h = ((All-head IsShort (run b 1) [] h).byte, All-nil IsShort)
joined_parts b (r ∷ runs) h = joined_by b r runs (r.byte == b) refl h

pub each_byte : (bytes : List ℕ) → All IsShort (runs_of bytes) → All IsByte bytes
each_byte [] h = All-nil IsByte
each_byte (b ∷ bytes) h = let both = joined_parts b (runs_of bytes) h in All-cons IsByte b bytes both.0 (each_byte bytes both.1)

-- a run of so many bytes at most
record IsWithin (most : ℕ) (r : Run) : Type 0 where
  byte : r.byte < 2 ^ 8
  count : r.count ≤ most

within_by : (most b : ℕ) (r : Run) (runs : List Run) (t : Bool) → IsByte b → All (IsWithin most) (r ∷ runs) → All (IsWithin (most + 1)) (cond t (run b (r.count + 1) ∷ runs) (run b 1 ∷ r ∷ runs))
within_by most b r runs true byte h =
    let more : All (IsWithin (most + 1)) (r ∷ runs) = All-weaker (IsWithin most) (IsWithin (most + 1)) (λ q w. record { byte = w.byte; count = omega (arith, w.count) }) (r ∷ runs) h in
    let first = All-head (IsWithin most) r runs h in
    All-cons (IsWithin (most + 1)) (run b (r.count + 1)) runs (record { byte = byte; count = omega (arith, first.count) }) (All-tail (IsWithin (most + 1)) r runs more)
within_by most b r runs false byte h =
    let more : All (IsWithin (most + 1)) (r ∷ runs) = All-weaker (IsWithin most) (IsWithin (most + 1)) (λ q w. record { byte = w.byte; count = omega (arith, w.count) }) (r ∷ runs) h in
    All-cons (IsWithin (most + 1)) (run b 1) (r ∷ runs) (record { byte = byte; count = omega arith }) more

within_joined : (most b : ℕ) (runs : List Run) → IsByte b → All (IsWithin most) runs → All (IsWithin (most + 1)) (joined b runs)
within_joined most b [] byte h = All-cons (IsWithin (most + 1)) (run b 1) [] (record { byte = byte; count = omega arith }) (All-nil (IsWithin (most + 1)))
within_joined most b (r ∷ runs) byte h = within_by most b r runs (r.byte == b) byte h

each_within : (bytes : List ℕ) → All IsByte bytes → All (IsWithin (length bytes)) (runs_of bytes)
each_within [] h = All-nil (IsWithin 0)
each_within (b ∷ bytes) h =
    let long : length bytes + 1 ≡ length (b ∷ bytes) = omega arith in
    subst (λ n. All (IsWithin n) (runs_of (b ∷ bytes))) long (within_joined (length bytes) b (runs_of bytes) (All-head IsByte b bytes h) (each_within bytes (All-tail IsByte b bytes h)))

are_bytes : (bytes : List ℕ) → All IsByte bytes → length bytes ≤ most_bytes → AreBytes bytes
are_bytes bytes each few = record {
  most = few;
  each = All-weaker (IsWithin (length bytes)) IsShort (λ r w. record { byte = w.byte; count = omega (arith, w.count, few) }) (runs_of bytes) (each_within bytes each);
}

-- WHAT IS WRITTEN IS READ

some_digits : (b : ℕ) (bs : List ℕ) → (length (hex_bytes (b ∷ bs)) == 0) ≡ false
some_digits b bs = grind (arith, nat_tests)

digits_is : (b : ℕ) (bs : List ℕ) → AreBytes (b ∷ bs) → bytes_of (digits_text (b ∷ bs)) ≡ Some (b ∷ bs)
digits_is b bs h =
    ap (λ t. cond t None (option_and_then few_bytes (bytes_in (hex_bytes (b ∷ bs))))) (some_digits b bs)
    ∙ ap (option_and_then few_bytes) (hex_bytes_is (b ∷ bs) (each_byte (b ∷ bs) h.each)) ∙ few_is (b ∷ bs) h.most

-- no digit is the letter before digits
no_x : (value : ℕ) → value < 16 → (digit_of value == 120) ≡ false
no_x value small = false_from_ne_true _ (λ e. let same : digit_of value ≡ 120 = grind (arith, nat_tests, e) in absurd (grind (arith, nat_tests, same, small)))

runs_begin : (r : Run) (runs : List Run) → (rest : List ℕ) × (runs_text (r ∷ runs) ≡ digit_of (r.byte / 16) ∷ rest)
runs_begin r [] = (digit_of (r.byte % 16) ∷ 42 ∷ decimal r.count, refl)
runs_begin r (q ∷ runs) = ((digit_of (r.byte % 16) ∷ 42 ∷ decimal r.count) ++ 44 ∷ runs_text (q ∷ runs), refl)

read_first : (word rest : List ℕ) (first : ℕ) → word ≡ first ∷ rest → (first == 120) ≡ false → bytes_of word ≡ runs_in word
read_first word rest first is other = subst (λ w. bytes_of w ≡ runs_in w) (sym is) (ap (λ t. cond t (digits_in rest) (runs_in (first ∷ rest))) other)

runs_by : (r : Run) (runs : List Run) → IsShort r → bytes_of (runs_text (r ∷ runs)) ≡ runs_in (runs_text (r ∷ runs))
runs_by r runs h = let is = runs_begin r runs in read_first (runs_text (r ∷ runs)) is.0 (digit_of (r.byte / 16)) is.1 (no_x (r.byte / 16) (omega (arith, h.byte)))

runs_read : (runs : List Run) → All IsShort runs → bytes_of (runs_text runs) ≡ runs_in (runs_text runs)
runs_read [] h = refl
runs_read (r ∷ runs) h = runs_by r runs (All-head IsShort r runs h)

pub word_is : (form : Form) (b : ℕ) (bs : List ℕ) → AreBytes (b ∷ bs) → (word : List ℕ) → bytes_words form (b ∷ bs) ≡ word ∷ [] → bytes_of word ≡ Some (b ∷ bs)
word_is InRuns b bs h word e =
    let same : runs_text (runs_of (b ∷ bs)) ≡ word = cc (e) in
    subst (λ w. bytes_of w ≡ Some (b ∷ bs)) same (runs_read (runs_of (b ∷ bs)) h.each ∙ runs_is (b ∷ bs) (omega arith) h)
word_is InDigits b bs h word e = let same : digits_text (b ∷ bs) ≡ word = cc (e) in subst (λ w. bytes_of w ≡ Some (b ∷ bs)) same (digits_is b bs h)

-- WHAT IS READ IS WRITTEN SO

abbrev pub text_in : Form → List ℕ → List ℕ
text_in InRuns bytes = runs_text (runs_of bytes)
text_in InDigits bytes = digits_text bytes

-- a word was read as bytes
pub record IsRead (word bytes : List ℕ) : Type 0 where
  pub form : Form
  pub is : word ≡ text_in form bytes
  pub are : AreBytes bytes
  pub some : 0 < length bytes

read_runs : (word bytes : List ℕ) → runs_in word ≡ Some bytes → IsRead word bytes
read_runs word bytes h = let is = runs_some word bytes h in record { form = InRuns; is = is.0; are = is.1; some = is.2 }

read_digits : (digits bytes : List ℕ) → digits_in digits ≡ Some bytes → IsRead (120 ∷ digits) bytes
read_digits digits bytes h =
    let some = if_none (length digits == 0) (option_and_then few_bytes (bytes_in digits)) bytes h in
    let found = then_some_of few_bytes (bytes_in digits) bytes some.1 in
    let few = few_some found.0 bytes found.2 in
    let told : bytes_in digits ≡ Some bytes = found.1 ∙ ap (λ l. Some l) few.0 in
    let is = hex_bytes_some digits bytes told in
    let long = bytes_long digits bytes told in
    record { form = InDigits; is = ap (λ ds. 120 ∷ ds) is.0; are = are_bytes bytes is.1 few.1; some = grind (arith, nat_tests, long, some.0) }

read_by : (first : ℕ) (digits bytes : List ℕ) (t : Bool) → (first == 120) ≡ t → cond t (digits_in digits) (runs_in (first ∷ digits)) ≡ Some bytes → IsRead (first ∷ digits) bytes
read_by first digits bytes true e h =
    let same : 120 ≡ first = grind (arith, nat_tests, e) in
    subst (λ x. IsRead (x ∷ digits) bytes) same (read_digits digits bytes h)
read_by first digits bytes false e h = read_runs (first ∷ digits) bytes h

pub word_some : (word bytes : List ℕ) → bytes_of word ≡ Some bytes → IsRead word bytes
word_some [] bytes h = read_runs [] bytes h
word_some (first ∷ digits) bytes h = read_by first digits bytes (first == 120) refl h

pub as_words : (form : Form) (b : ℕ) (bs : List ℕ) → text_in form (b ∷ bs) ∷ [] ≡ bytes_words form (b ∷ bs)
as_words InRuns b bs = refl
as_words InDigits b bs = refl
