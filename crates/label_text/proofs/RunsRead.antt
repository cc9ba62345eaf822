-- Runs, as they are written and read.
use Rattle.std.proofs.Common.{◌≡◌, ◌≤◌, ◌<◌, ◌^◌, ◌==◌, ◌+◌, ◌/◌, ◌%◌, ◌++◌, ◌∙◌, ℕ, Bool, true, false, List, [], ◌∷◌, Option, None, Some, All, ap, arith, cond, drop, get_or, length, map, nat_le, refl, replicate, slice_get, subst, sym}
use Rattle.std.specs.Fmt.{decimal}
use Rattle.std.specs.List.{join_with_byte}
use Rattle.std.specs.Prelude.{IfSome}
use Rattle.std.specs.Option.{option_and_then, option_map}
use Rattle.std.proofs.lemmas.Bool.Decides.{nat_tests}
use Rattle.std.proofs.lemmas.List.Elements.{All-append, All-cons, All-nil, All-head, All-tail, All-weaker}
use Rattle.std.proofs.lemmas.List.Splits.{join_with_byte-slice_split}
use Rattle.label_text.specs.Runs.{AreBytes, IsShort, Run, digit_of, expanded, hex_of, most_bytes, run_text, runs_of, runs_text}
use Rattle.label_text.specs.inside.Reading.{at_end, byte_at, byte_in, byte_of, bytes_after, few_bytes, may_follow, number_at, number_in, parted, run_at, run_in, run_told, runs_in}
use Rattle.label_text.specs.declared.runs.Run.{Run as TakenRun}
use Rattle.label_text.proofs.Decimals.{one}
use Rattle.label_text.proofs.Digits.{byte_some, hex_above, hex_is, hex_some}
use Rattle.label_text.proofs.Found.{end_some, first_is, if_some, map_some, then_some_of}
use Rattle.label_text.proofs.Numbers.{IsAbove, decimal_above, number_is, number_some}
use Rattle.label_text.proofs.Parting.{IsFree, parts_again, some_part}
use Rattle.label_text.proofs.LongestRuns.{AreLongest, expanded_again, run, runs_again, runs_longest, some_expanded}

-- bytes above 47 are no space, no comma and no star
pub free_of : (c : ℕ) (bytes : List ℕ) → c ≤ 47 → IsAbove 47 bytes → IsFree c bytes
free_of c bytes small = All-weaker (λ b. 47 < b) (λ b. (b == c) ≡ false) (λ b above. grind (arith, nat_tests)) bytes

-- the text of a run has no such byte but its star
pub run_free : (c : ℕ) (r : Run) → c ≤ 47 → (42 == c) ≡ false → IsShort r → IsFree c (run_text r)
run_free c r small other short =
    All-append (λ b. (b == c) ≡ false) (hex_of r.byte) (42 ∷ decimal r.count) (free_of c (hex_of r.byte) small (hex_above r.byte))
    (All-cons (λ b. (b == c) ≡ false) 42 (decimal r.count) other (free_of c (decimal r.count) small (decimal_above 64 r.count (omega arith) short.count)))

all_runs_free : (c : ℕ) → c ≤ 47 → (42 == c) ≡ false → (runs : List Run) → All IsShort runs → All (IsFree c) (map run_text runs)
all_runs_free c small other [] h = All-nil (IsFree c)
all_runs_free c small other (r ∷ runs) h =
    All-cons (IsFree c) (run_text r) (map run_text runs) (run_free c r small other (All-head IsShort r runs h)) (all_runs_free c small other runs (All-tail IsShort r runs h))

joined_free : (c d : ℕ) → (d == c) ≡ false → (parts : List (List ℕ)) → All (IsFree c) parts → IsFree c (join_with_byte d parts)
joined_free c d other [] h = All-nil (λ b. (b == c) ≡ false)
joined_free c d other (part ∷ []) h = All-head (IsFree c) part [] h
joined_free c d other (part ∷ next ∷ parts) h =
    All-append (λ b. (b == c) ≡ false) part (d ∷ join_with_byte d (next ∷ parts)) (All-head (IsFree c) part (next ∷ parts) h)
    (All-cons (λ b. (b == c) ≡ false) d (join_with_byte d (next ∷ parts)) other (joined_free c d other (next ∷ parts) (All-tail (IsFree c) part (next ∷ parts) h)))

-- the text of runs has no space
pub runs_free : (runs : List Run) → All IsShort runs → IsFree 32 (runs_text runs)
runs_free runs h = joined_free 32 44 refl (map run_text runs) (all_runs_free 32 (omega arith) refl runs h)

-- WHAT IS WRITTEN IS READ

run_parts : (r : Run) → IsShort r → parted 42 (run_text r) ≡ hex_of r.byte ∷ decimal r.count ∷ []
run_parts r short =
    parts_again 42 (hex_of r.byte ∷ decimal r.count ∷ []) (omega arith)
    (All-cons (IsFree 42) (hex_of r.byte) (decimal r.count ∷ []) (free_of 42 (hex_of r.byte) (omega arith) (hex_above r.byte))
    (All-cons (IsFree 42) (decimal r.count) [] (free_of 42 (decimal r.count) (omega arith) (decimal_above 64 r.count (omega arith) short.count)) (All-nil (IsFree 42))))

pub run_is : (r : Run) → IsShort r → run_in (run_text r) ≡ Some r
run_is r short =
    ap run_at (run_parts r short)
    ∙ ap (λ o. option_and_then (λ byte. option_and_then (λ count. Some (run byte count)) (number_in 64 (decimal r.count))) o) (hex_is r.byte short.byte)
    ∙ ap (λ o. option_and_then (λ count. Some (run r.byte count)) o) (number_is 64 r.count (omega arith) short.count)

-- a run whose count has one digit
pub short_is : (high low digit byte count : ℕ) → byte_of high low ≡ Some byte → digit ≡ 48 + count → count < 10 → run_in (high ∷ low ∷ 42 ∷ digit ∷ []) ≡ Some (run byte count)
short_is high low digit byte count is told few =
    let parts = byte_some high low byte is in
    let text : high ∷ low ∷ 42 ∷ digit ∷ [] ≡ run_text (run byte count) =
    ap (λ h. h ∷ low ∷ 42 ∷ digit ∷ []) parts.0 ∙ ap (λ l. digit_of (byte / 16) ∷ l ∷ 42 ∷ digit ∷ []) parts.1
    ∙ ap (λ ds. digit_of (byte / 16) ∷ digit_of (byte % 16) ∷ 42 ∷ ds) (ap (λ d. d ∷ []) told ∙ sym (one count few)) in
    ap run_in text ∙ run_is (run byte count) (record { byte = parts.2; count = omega arith })

four_are : (xs : List ℕ) → 4 ≤ length xs → length xs < 5 → xs ≡ get_or xs 0 0 ∷ get_or xs 1 0 ∷ get_or xs 2 0 ∷ get_or xs 3 0 ∷ []
four_are [] low high = absurd (omega arith)
four_are (a ∷ []) low high = absurd (omega arith)
four_are (a ∷ b ∷ []) low high = absurd (omega arith)
four_are (a ∷ b ∷ c ∷ []) low high = absurd (omega arith)
four_are (a ∷ b ∷ c ∷ d ∷ []) low high = refl
four_are (a ∷ b ∷ c ∷ d ∷ e ∷ xs) low high = absurd (omega arith)

-- what was counted is the run of four bytes
pub counted_is : (part : List ℕ) (byte : ℕ) (told : Option ℕ) (found : Option TakenRun) → 4 ≤ length part → length part < 5 → told ≡ byte_of (get_or part 0 0) (get_or part 1 0) → told ≡ Some byte
    → IfSome found (λ run. (run.byte ≡ byte) × (get_or part 2 0 ≡ 42) × (get_or part 3 0 ≡ 48 + run.count) × (run.count < 10)) → IfSome found (λ run. Some (run_told run) ≡ run_in part)
counted_is part byte told None low high is some h = tt
counted_is part byte told (Some r) low high is some h =
    ap (λ b. Some (run b r.count)) h.0
    ∙ sym (ap run_in (four_are part low high ∙ ap (λ star. get_or part 0 0 ∷ get_or part 1 0 ∷ star ∷ get_or part 3 0 ∷ []) h.1)
    ∙ short_is (get_or part 0 0) (get_or part 1 0) (get_or part 3 0) byte r.count (sym is ∙ some) h.2 h.3)

bytes_is : (last : Option ℕ) (runs : List Run) → AreLongest last runs → All IsShort runs → bytes_after last (map run_text runs) ≡ Some (expanded runs)
bytes_is last [] longest short = refl
bytes_is last (r ∷ runs) longest short =
    ap (λ o. option_and_then (λ (q : Run). cond (may_follow last q) (option_map (λ bytes. replicate q.count q.byte ++ bytes) (bytes_after (Some q.byte) (map run_text runs))) None) o)
    (run_is r (All-head IsShort r runs short))
    ∙ ap (λ b. cond b (option_map (λ bytes. replicate r.count r.byte ++ bytes) (bytes_after (Some r.byte) (map run_text runs))) None) longest.0
    ∙ ap (option_map (λ bytes. replicate r.count r.byte ++ bytes)) (bytes_is (Some r.byte) runs longest.1 (All-tail IsShort r runs short))

all_parts : (runs : List Run) → 0 < length runs → All IsShort runs → parted 44 (runs_text runs) ≡ map run_text runs
all_parts [] some short = absurd (omega arith)
all_parts (r ∷ runs) some short = parts_again 44 (map run_text (r ∷ runs)) (omega arith) (all_runs_free 44 (omega arith) refl (r ∷ runs) short)

some_runs_by : (byte : ℕ) (r : Run) (runs : List Run) (same : Bool) → 0 < length (cond same (run byte (r.count + 1) ∷ runs) (run byte 1 ∷ r ∷ runs))
some_runs_by byte r runs true = omega arith
some_runs_by byte r runs false = omega arith

some_joined : (byte : ℕ) (runs : List Run) → 0 < length (Rattle.label_text.specs.Runs.joined byte runs)
some_joined byte [] = omega arith
some_joined byte (r ∷ runs) = some_runs_by byte r runs (r.byte == byte)

some_runs : (bytes : List ℕ) → 0 < length bytes → 0 < length (runs_of bytes)
some_runs [] some = absurd (omega arith)
some_runs (byte ∷ bytes) some = some_joined byte (runs_of bytes)

pub few_is : (bytes : List ℕ) → length bytes ≤ most_bytes → few_bytes bytes ≡ Some bytes
few_is bytes few = let fits : nat_le (length bytes) most_bytes ≡ true = grind (arith, nat_tests) in ap (λ b. cond b (Some bytes) None) fits

pub few_some : (found bytes : List ℕ) → few_bytes found ≡ Some bytes → (found ≡ bytes) × (length bytes ≤ most_bytes)
few_some found bytes h =
    let is = if_some (nat_le (length found) most_bytes) (Some found) bytes h in
    let same : found ≡ bytes = cc (is.1) in
    let few : length found ≤ most_bytes = grind (arith, nat_tests, is.0) in
    (same, subst (λ b. length b ≤ most_bytes) same few)

pub runs_is : (bytes : List ℕ) → 0 < length bytes → AreBytes bytes → runs_in (runs_text (runs_of bytes)) ≡ Some bytes
runs_is bytes some short =
    ap (λ parts. option_and_then few_bytes (bytes_after None parts)) (all_parts (runs_of bytes) (some_runs bytes some) short.each)
    ∙ ap (option_and_then few_bytes) (bytes_is None (runs_of bytes) (runs_longest bytes) short.each)
    ∙ ap few_bytes (expanded_again bytes) ∙ few_is bytes short.most

-- WHAT IS READ IS WRITTEN SO

pub byte_at_some : (words : List (List ℕ)) (b : ℕ) → byte_at words ≡ Some b → (words ≡ hex_of b ∷ drop 1 words) × (b < 2 ^ 8)
byte_at_some words b h =
    let w = then_some_of byte_in (slice_get words 0) b h in
    let is = hex_some w.0 b w.2 in
    (first_is words w.0 w.1 ∙ ap (λ word. word ∷ drop 1 words) is.0, is.1)

pub number_at_some : (bits : ℕ) (words : List (List ℕ)) (n : ℕ) → number_at bits words ≡ Some n → (words ≡ decimal n ∷ drop 1 words) × (n < 2 ^ bits)
number_at_some bits words n h =
    let w = then_some_of (number_in bits) (slice_get words 0) n h in
    let is = number_some bits n w.0 w.2 in
    (first_is words w.0 w.1 ∙ ap (λ word. word ∷ drop 1 words) is.0, is.1)

run_at_some : (words : List (List ℕ)) (r : Run) → run_at words ≡ Some r → (words ≡ hex_of r.byte ∷ decimal r.count ∷ []) × IsShort r
run_at_some words r h =
    let b = then_some_of (λ byte. option_and_then (λ count. at_end (drop 1 (drop 1 words)) (Some (run byte count))) (number_at 64 (drop 1 words))) (byte_at words) r h in
    let n = then_some_of (λ count. at_end (drop 1 (drop 1 words)) (Some (run b.0 count))) (number_at 64 (drop 1 words)) r b.2 in
    let e = end_some (drop 1 (drop 1 words)) (Some (run b.0 n.0)) r n.2 in
    let byte = byte_at_some words b.0 b.1 in
    let count = number_at_some 64 (drop 1 words) n.0 n.1 in
    let same : run b.0 n.0 ≡ r = cc (e.1) in
    subst (λ q. (words ≡ hex_of q.byte ∷ decimal q.count ∷ []) × IsShort q) same
    (byte.0 ∙ ap (λ more. hex_of b.0 ∷ more) (count.0 ∙ ap (λ more. decimal n.0 ∷ more) e.0), record { byte = byte.1; count = count.1 })

run_some : (part : List ℕ) (r : Run) → run_in part ≡ Some r → (part ≡ run_text r) × IsShort r
run_some part r h =
    let is = run_at_some (parted 42 part) r h in
    (sym (join_with_byte-slice_split 42 part) ∙ ap (join_with_byte 42) is.0, is.1)

-- parts that were read as runs
record AreRuns (last : Option ℕ) (parts : List (List ℕ)) (bytes : List ℕ) : Type 0 where
  runs : List Run
  texts : parts ≡ map run_text runs
  expand : bytes ≡ expanded runs
  longest : AreLongest last runs
  short : All IsShort runs

bytes_some : (last : Option ℕ) (parts : List (List ℕ)) (bytes : List ℕ) → bytes_after last parts ≡ Some bytes → AreRuns last parts bytes
bytes_some last [] bytes h = record { runs = []; texts = refl; expand = cc (h); longest = tt; short = All-nil IsShort }
bytes_some last (part ∷ parts) bytes h =
    let r = then_some_of (λ (q : Run). cond (may_follow last q) (option_map (λ more. replicate q.count q.byte ++ more) (bytes_after (Some q.byte) parts)) None) (run_in part) bytes h in
    let q = r.0 in
    let may = if_some (may_follow last q) (option_map (λ more. replicate q.count q.byte ++ more) (bytes_after (Some q.byte) parts)) bytes r.2 in
    let behind = map_some (λ more. replicate q.count q.byte ++ more) (bytes_after (Some q.byte) parts) bytes may.1 in
    let is = run_some part q r.1 in
    let all = bytes_some (Some q.byte) parts behind.0 behind.1 in
    record {
      runs = q ∷ all.runs;
      texts = (λ i. is.0 i ∷ all.texts i);
      expand = sym behind.2 ∙ ap (λ more. replicate q.count q.byte ++ more) all.expand;
      longest = (may.0, all.longest);
      short = All-cons IsShort q all.runs is.1 all.short;
    }

some_bytes : (runs : List Run) → 0 < length (map run_text runs) → AreLongest None runs → 0 < length (expanded runs)
some_bytes [] some h = absurd (omega arith)
some_bytes (r ∷ runs) some h = some_expanded None r runs h

pub runs_some : (word bytes : List ℕ) → runs_in word ≡ Some bytes → (word ≡ runs_text (runs_of bytes)) × AreBytes bytes × (0 < length bytes)
runs_some word bytes h =
    let found = then_some_of few_bytes (bytes_after None (parted 44 word)) bytes h in
    let few = few_some found.0 bytes found.2 in
    let all = bytes_some None (parted 44 word) bytes (found.1 ∙ ap (λ l. Some l) few.0) in
    let same : runs_of bytes ≡ all.runs = ap runs_of all.expand ∙ runs_again None all.runs all.longest in
    let some : 0 < length (expanded all.runs) = some_bytes all.runs (subst (λ ps. 0 < length ps) all.texts (some_part 44 word)) all.longest in (
      sym (join_with_byte-slice_split 44 word) ∙ ap (join_with_byte 44) all.texts ∙ ap runs_text (sym same),
      record { most = few.1; each = subst (All IsShort) (sym same) all.short },
      subst (λ l. 0 < length l) (sym all.expand) some,
    )
