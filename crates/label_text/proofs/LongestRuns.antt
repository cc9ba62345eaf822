-- The runs of bytes, and the bytes of runs.
use Rattle.std.proofs.Common.{◌≡◌, ◌≢◌, ℕ, zero, suc, ◌+◌, ◌≤◌, ◌<◌, ◌==◌, ◌&&◌, Bool, true, false, inl, inr, not, List, [], ◌∷◌, ◌++◌, Option, None, Some, All, codes, cond, length, take, drop, get_or, replicate, arith, rules, refl, ap, subst, sym, ◌∙◌}
use Rattle.std.proofs.lemmas.Bool.{cases_lt, and_from, and_parts}
use Rattle.std.proofs.lemmas.Bool.Decides.{nat_tests}
use Rattle.std.proofs.lemmas.List.{append_assoc, append-nil, take-append-drop, length-take-le, nil_from_length}
use Rattle.std.proofs.lemmas.List.Elements.{All-head, All-tail}
use Rattle.std.proofs.Math.Seq.{drop-cons}
use Rattle.std.proofs.Math.ListN.{drop_of_length-le}
use Rattle.std.specs.Bool.{⊤}
use Rattle.label_text.specs.Runs.{Run, expanded, joined, runs_of, run_text, runs_text}
use Rattle.label_text.specs.inside.Spacing.{comma}
use Rattle.label_text.specs.inside.Reading.{is_last, may_follow}

abbrev pub run : ℕ → ℕ → Run
run byte count = record { byte = byte; count = count }

-- the first run is of this byte
abbrev begins : ℕ → List Run → Bool
begins x [] = false
begins x (r ∷ runs) = r.byte == x

-- the first byte is this one
abbrev pub starts : ℕ → List ℕ → Bool
starts x [] = false
starts x (y ∷ ys) = y == x

begins_by : (x y : ℕ) (r : Run) (runs : List Run) (same : Bool) → begins x (cond same (run y (r.count + 1) ∷ runs) (run y 1 ∷ r ∷ runs)) ≡ (y == x)
begins_by x y r runs true = refl
begins_by x y r runs false = refl

begins_joined : (x y : ℕ) (runs : List Run) → begins x (joined y runs) ≡ (y == x)
begins_joined x y [] = refl
begins_joined x y (r ∷ runs) = begins_by x y r runs (r.byte == y)

begins_starts : (x : ℕ) (ys : List ℕ) → begins x (runs_of ys) ≡ starts x ys
begins_starts x [] = refl
begins_starts x (y ∷ ys) = begins_joined x y (runs_of ys)

-- another run stays
beside : (x : ℕ) (runs : List Run) → begins x runs ≡ false → joined x runs ≡ run x 1 ∷ runs
beside x [] h = refl
beside x (r ∷ runs) h = ap (λ (b : Bool). cond b (run x (r.count + 1) ∷ runs) (run x 1 ∷ r ∷ runs)) h

same_byte : (x : ℕ) → (x == x) ≡ true
same_byte x = search rules

one_more : (x n : ℕ) (runs : List Run) → joined x (run x n ∷ runs) ≡ run x (n + 1) ∷ runs
one_more x n runs = ap (λ (b : Bool). cond b (run x (n + 1) ∷ runs) (run x 1 ∷ run x n ∷ runs)) (same_byte x)

-- equal bytes before others are a run
pub first_of : (x k : ℕ) (ys : List ℕ) → starts x ys ≡ false → runs_of (replicate (suc k) x ++ ys) ≡ run x (k + 1) ∷ runs_of ys
first_of x zero ys other = beside x (runs_of ys) (begins_starts x ys ∙ other) ∙ ap (λ (n : ℕ). run x n ∷ runs_of ys) (omega arith)
first_of x (suc k) ys other = ap (joined x) (first_of x k ys other) ∙ (one_more x (k + 1) (runs_of ys) ∙ ap (λ (n : ℕ). run x n ∷ runs_of ys) (omega arith))

equal : (x : ℕ) (xs : List ℕ) → All (λ byte. byte ≡ x) xs → xs ≡ replicate (length xs) x
equal x [] = λ h. refl
equal x (y ∷ ys) = λ h.
    let first : y ≡ x = All-head (λ byte. byte ≡ x) y ys h in
    let others : ys ≡ replicate (length ys) x = equal x ys (All-tail (λ byte. byte ≡ x) y ys h) in
    let k : y ∷ ys ≡ x ∷ replicate (length ys) x = cc in
    k

unlike : (x y : ℕ) → y ≢ x → (y == x) ≡ false
unlike x y h = search rules

-- what stands behind the longest run starts with another byte
ends : (x n : ℕ) (xs : List ℕ) → n ≤ length xs → (n < length xs → get_or xs n 0 ≢ x) → starts x (drop n xs) ≡ false
ends x n xs within longest = elim (cases_lt n (length xs)) [
  | inl lt ↦ subst (λ (l : List ℕ). starts x l ≡ false) (sym (drop-cons xs n 0 lt)) (unlike x (get_or xs n 0) (longest lt))
  | inr ge ↦ subst (λ (l : List ℕ). starts x l ≡ false) (sym (drop_of_length-le xs ge)) refl
]

-- the first run and those of the bytes behind it
pub first_run : (x n : ℕ) (xs : List ℕ) → n ≤ length xs → 0 < n → All (λ byte. byte ≡ x) (take n xs) → (n < length xs → get_or xs n 0 ≢ x)
    → runs_of xs ≡ run x n ∷ runs_of (drop n xs)
first_run x zero xs = λ within some all longest. absurd (omega arith)
first_run x (suc k) xs = λ within some all longest.
    let n : ℕ = suc k in
    let long : length (take n xs) ≡ n = length-take-le n xs within in
    let same : take n xs ≡ replicate n x = equal x (take n xs) all ∙ ap (λ (i : ℕ). replicate i x) long in
    ap runs_of (sym (take-append-drop n xs) ∙ ap (λ (l : List ℕ). l ++ drop n xs) same)
    ∙ (first_of x k (drop n xs) (ends x n xs within longest) ∙ ap (λ (i : ℕ). run x i ∷ runs_of (drop n xs)) (omega arith))

-- THE TEXT OF RUNS

text_by : (r next : Run) (runs : List Run) (byte : ℕ) (same : Bool)
    → runs_text (r ∷ cond same (run byte (next.count + 1) ∷ runs) (run byte 1 ∷ next ∷ runs))
    ≡ run_text r ++ (codes "," ++ runs_text (cond same (run byte (next.count + 1) ∷ runs) (run byte 1 ∷ next ∷ runs)))
text_by r next runs byte true = refl
text_by r next runs byte false = refl

text_joined : (r : Run) (byte : ℕ) (runs : List Run) → runs_text (r ∷ joined byte runs) ≡ run_text r ++ (codes "," ++ runs_text (joined byte runs))
text_joined r byte [] = refl
text_joined r byte (next ∷ runs) = text_by r next runs byte (next.byte == byte)

some_behind : (n : ℕ) → (suc n == 0) ≡ false
some_behind n = unlike 0 (suc n) (λ e. absurd (omega arith))

-- the text of a run and of those behind it
pub text_first : (r : Run) (ys : List ℕ) → runs_text (r ∷ runs_of ys) ≡ (run_text r ++ comma (length ys == 0)) ++ runs_text (runs_of ys)
text_first r [] = sym (append-nil (run_text r ++ []) ∙ append-nil (run_text r))
text_first r (y ∷ ys) = text_joined r y (runs_of ys)
    ∙ (sym (append_assoc (run_text r) (codes ",") (runs_text (runs_of (y ∷ ys))))
    ∙ ap (λ (b : Bool). (run_text r ++ comma b) ++ runs_text (runs_of (y ∷ ys))) (sym (some_behind (length ys))))

-- the runs of all bytes are written behind a text but for those of the rest
pub record AreWritten (old bytes rest new : List ℕ) : Type 0 where
  pub behind : old ++ runs_text (runs_of bytes) ≡ new ++ runs_text (runs_of rest)

pub none_written : (old bytes : List ℕ) → AreWritten old bytes bytes old
none_written old bytes = record { behind = refl }

pub all_written : (old bytes rest new : List ℕ) → AreWritten old bytes rest new → length rest ≡ 0 → new ≡ old ++ runs_text (runs_of bytes)
all_written old bytes rest new h none =
    let empty : rest ≡ [] = nil_from_length rest none in
    sym (h.behind ∙ (ap (λ (l : List ℕ). new ++ runs_text (runs_of l)) empty ∙ append-nil new))

pub run_written : (old bytes rest behind mid new : List ℕ) (byte n : ℕ) (is_last : Bool) → AreWritten old bytes rest mid
    → n ≤ length rest → 0 < n → All (λ b. b ≡ byte) (take n rest) → (n < length rest → get_or rest n 0 ≢ byte)
    → behind ≡ drop n rest → is_last ≡ (length behind == 0)
    → new ≡ mid ++ (run_text (run byte n) ++ comma is_last) → AreWritten old bytes behind new
run_written old bytes rest behind mid new byte n is_last h within some all longest cut last more =
    let text : List ℕ = run_text (run byte n) ++ comma is_last in
    let runs : runs_of rest ≡ run byte n ∷ runs_of behind = first_run byte n rest within some all longest ∙ ap (λ (l : List ℕ). run byte n ∷ runs_of l) (sym cut) in
    let texts : runs_text (runs_of rest) ≡ text ++ runs_text (runs_of behind) =
    ap runs_text runs ∙ (text_first (run byte n) behind ∙ ap (λ (b : Bool). (run_text (run byte n) ++ comma b) ++ runs_text (runs_of behind)) (sym last)) in
    record {
      behind = h.behind ∙ (ap (λ (l : List ℕ). mid ++ l) texts
          ∙ (sym (append_assoc mid text (runs_text (runs_of behind))) ∙ ap (λ (l : List ℕ). l ++ runs_text (runs_of behind)) (sym more)));
    }

-- some byte equals the first one
pub some_equal : (n byte : ℕ) (rest : List ℕ) → 0 < length rest → byte ≡ get_or rest 0 0 → (n < length rest → get_or rest n 0 ≢ byte) → 0 < n
some_equal zero byte rest some first longest = absurd (longest some (sym first))
some_equal (suc n) byte rest some first longest = omega arith

-- EXPANSION

push_equal : (n byte : ℕ) → replicate (n + 1) byte ≡ byte ∷ replicate n byte
push_equal n byte = let e : n + 1 ≡ suc n = omega arith in ap (λ m. replicate m byte) e

expanded_by : (byte : ℕ) (r : Run) (runs : List Run) (same : Bool) → (r.byte == byte) ≡ same
    → expanded (cond same (run byte (r.count + 1) ∷ runs) (run byte 1 ∷ r ∷ runs)) ≡ byte ∷ expanded (r ∷ runs)
expanded_by byte r runs true e =
    let same : r.byte ≡ byte = grind (arith, nat_tests) in
    ap (λ l. l ++ expanded runs) (push_equal r.count byte) ∙ ap (λ b. byte ∷ (replicate r.count b ++ expanded runs)) (sym same)
expanded_by byte r runs false e = refl

expanded_joined : (byte : ℕ) (runs : List Run) → expanded (joined byte runs) ≡ byte ∷ expanded runs
expanded_joined byte [] = refl
expanded_joined byte (r ∷ runs) = expanded_by byte r runs (r.byte == byte) refl

-- the runs of bytes expand to them
pub expanded_again : (bytes : List ℕ) → expanded (runs_of bytes) ≡ bytes
expanded_again [] = refl
expanded_again (byte ∷ bytes) = expanded_joined byte (runs_of bytes) ∙ ap (λ l. byte ∷ l) (expanded_again bytes)

-- each run may follow the one before
abbrev pub AreLongest : Option ℕ → List Run → Type 0
AreLongest last [] = ⊤
AreLongest last (r ∷ runs) = (may_follow last r ≡ true) × AreLongest (Some r.byte) runs

may_follow_none : (byte n : ℕ) → may_follow None (run byte (n + 1)) ≡ true
may_follow_none byte n = let some : (n + 1 == 0) ≡ false = grind (arith, nat_tests) in ap (λ b. not b && true) some

follows_by : (byte : ℕ) (r : Run) → may_follow None r ≡ true → (r.byte == byte) ≡ false → may_follow (Some byte) r ≡ true
follows_by byte r some other =
    let apart : (byte == r.byte) ≡ false = grind (arith, nat_tests) in
    let count : not (r.count == 0) ≡ true = (and_parts (not (r.count == 0)) (not (is_last None r.byte)) some).0 in
    and_from (not (r.count == 0)) (not (is_last (Some byte) r.byte)) count (ap not apart)

longest_by : (byte : ℕ) (r : Run) (runs : List Run) (same : Bool) → (r.byte == byte) ≡ same → AreLongest None (r ∷ runs)
    → AreLongest None (cond same (run byte (r.count + 1) ∷ runs) (run byte 1 ∷ r ∷ runs))
longest_by byte r runs true e h =
    let same : r.byte ≡ byte = grind (arith, nat_tests) in
    (may_follow_none byte r.count, subst (λ b. AreLongest (Some b) runs) same h.1)
longest_by byte r runs false e h = (refl, (follows_by byte r h.0 e, h.1))

longest_joined : (byte : ℕ) (runs : List Run) → AreLongest None runs → AreLongest None (joined byte runs)
longest_joined byte [] h = (refl, tt)
longest_joined byte (r ∷ runs) h = longest_by byte r runs (r.byte == byte) refl h

pub runs_longest : (bytes : List ℕ) → AreLongest None (runs_of bytes)
runs_longest [] = tt
runs_longest (byte ∷ bytes) = longest_joined byte (runs_of bytes) (runs_longest bytes)

-- runs that may follow a byte start with another one
some_count : (last : Option ℕ) (r : Run) → may_follow last r ≡ true → 0 < r.count
some_count last r h =
    let count : not (r.count == 0) ≡ true = (and_parts (not (r.count == 0)) (not (is_last last r.byte)) h).0 in
    grind (arith, nat_tests)

starts_count : (x byte n : ℕ) (bytes : List ℕ) → 0 < n → (byte == x) ≡ false → starts x (replicate n byte ++ bytes) ≡ false
starts_count x byte zero bytes some other = absurd (omega arith)
starts_count x byte (suc n) bytes some other = other

starts_other : (x : ℕ) (runs : List Run) → AreLongest (Some x) runs → starts x (expanded runs) ≡ false
starts_other x [] h = refl
starts_other x (r ∷ runs) h =
    let apart : not (x == r.byte) ≡ true = (and_parts (not (r.count == 0)) (not (is_last (Some x) r.byte)) h.0).1 in
    let other : (r.byte == x) ≡ false = grind (arith, nat_tests) in
    starts_count x r.byte r.count (expanded runs) (some_count (Some x) r h.0) other

runs_first : (r : Run) (n : ℕ) (runs : List Run) → n ≡ r.count → 0 < n → starts r.byte (expanded runs) ≡ false → runs_of (expanded runs) ≡ runs
    → runs_of (replicate n r.byte ++ expanded runs) ≡ r ∷ runs
runs_first r zero runs e some other more = absurd (omega arith)
runs_first r (suc k) runs e some other more =
    let count : k + 1 ≡ r.count = omega arith in
    first_of r.byte k (expanded runs) other ∙ (λ i. run r.byte (count i) ∷ more i)

-- runs that are as long as can be are those of the bytes that they expand to
pub runs_again : (last : Option ℕ) (runs : List Run) → AreLongest last runs → runs_of (expanded runs) ≡ runs
runs_again last [] h = refl
runs_again last (r ∷ runs) h =
    runs_first r r.count runs refl (some_count last r h.0) (starts_other r.byte runs h.1) (runs_again (Some r.byte) runs h.1)

pub some_expanded : (last : Option ℕ) (r : Run) (runs : List Run) → AreLongest last (r ∷ runs) → 0 < length (expanded (r ∷ runs))
some_expanded last r runs h = some_by r.count r.byte (expanded runs) (some_count last r h.0)
  where
    some_by : (n byte : ℕ) (bytes : List ℕ) → 0 < n → 0 < length (replicate n byte ++ bytes)
    some_by zero byte bytes some = absurd (omega arith)
    some_by (suc n) byte bytes some = omega arith
