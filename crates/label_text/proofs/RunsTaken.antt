-- Runs, taken one by one.
use Rattle.std.proofs.Common.{◌≡◌, ◌≤◌, ◌^◌, ◌+◌, ◌++◌, ◌∙◌, ℕ, List, [], ◌∷◌, Option, None, Some, ap, arith, cond, false, length, length-append, nat_le, refl, replicate, subst, sym, true}
use Rattle.std.proofs.lemmas.Bool.Decides.{nat_tests}
use Rattle.std.proofs.lemmas.List.{append_assoc, append-nil, length-replicate}
use Rattle.std.specs.Option.{option_and_then, option_map}
use Rattle.label_text.specs.Runs.{Run, most_bytes}
use Rattle.label_text.specs.inside.Reading.{bytes_after, few_bytes, may_follow, parted, run_in, runs_in}

-- what is read of a word begins with these bytes, which are no more than a label can have
pub record AreTaken (word bytes : List ℕ) (last : Option ℕ) (parts : List (List ℕ)) : Type 0 where
  pub most : length bytes ≤ 2 ^ 28
  pub behind : bytes_after None (parted 44 word) ≡ option_map (λ more. bytes ++ more) (bytes_after last parts)

map_same : (o : Option (List ℕ)) → o ≡ option_map (λ more. [] ++ more) o
map_same None = refl
map_same (Some x) = refl

pub none_taken : (word : List ℕ) (bytes : List ℕ) (parts : List (List ℕ)) → bytes ≡ [] → parts ≡ parted 44 word → AreTaken word bytes None parts
none_taken word bytes parts none all = record {
  most = subst (λ l. length l ≤ 2 ^ 28) (sym none) (omega arith);
  behind = map_same (bytes_after None (parted 44 word)) ∙ (λ i. option_map (λ more. sym none i ++ more) (bytes_after None (sym all i)));
}

map_more : (bytes run : List ℕ) (o : Option (List ℕ)) → option_map (λ more. bytes ++ more) (option_map (λ more. run ++ more) o) ≡ option_map (λ more. (bytes ++ run) ++ more) o
map_more bytes run None = refl
map_more bytes run (Some x) = ap (λ l. Some l) (sym (append_assoc bytes run x))

abbrev after : Option ℕ → List (List ℕ) → Option Run → Option (List ℕ)
after last parts o = option_and_then (λ (r : Run). cond (may_follow last r) (option_map (λ more. replicate r.count r.byte ++ more) (bytes_after (Some r.byte) parts)) None) o

first_taken : (word bytes part : List ℕ) (last : Option ℕ) (parts more : List (List ℕ)) (o : Option Run) → AreTaken word bytes last parts → parts ≡ part ∷ more → run_in part ≡ o
    → bytes_after None (parted 44 word) ≡ option_map (λ l. bytes ++ l) (after last more o)
first_taken word bytes part last parts more o h cut is =
    h.behind ∙ ap (λ ps. option_map (λ l. bytes ++ l) (bytes_after last ps)) cut ∙ ap (λ x. option_map (λ l. bytes ++ l) (after last more x)) is

pub no_run : (word bytes part : List ℕ) (last : Option ℕ) (parts more : List (List ℕ)) → AreTaken word bytes last parts → parts ≡ part ∷ more → run_in part ≡ None
    → runs_in word ≡ None
no_run word bytes part last parts more h cut none = ap (option_and_then few_bytes) (first_taken word bytes part last parts more None h cut none)

pub bad_run : (word bytes part : List ℕ) (last : Option ℕ) (parts more : List (List ℕ)) (r : Run) → AreTaken word bytes last parts → parts ≡ part ∷ more
    → run_in part ≡ Some r → may_follow last r ≡ false → runs_in word ≡ None
bad_run word bytes part last parts more r h cut is bad = ap (option_and_then few_bytes)
    (first_taken word bytes part last parts more (Some r) h cut is
    ∙ ap (λ b. option_map (λ l. bytes ++ l) (cond b (option_map (λ l. replicate r.count r.byte ++ l) (bytes_after (Some r.byte) more)) None)) bad)

grown_by : (word bytes part : List ℕ) (last : Option ℕ) (parts more : List (List ℕ)) (r : Run) → AreTaken word bytes last parts → parts ≡ part ∷ more
    → run_in part ≡ Some r → may_follow last r ≡ true
    → bytes_after None (parted 44 word) ≡ option_map (λ l. (bytes ++ replicate r.count r.byte) ++ l) (bytes_after (Some r.byte) more)
grown_by word bytes part last parts more r h cut is may =
    first_taken word bytes part last parts more (Some r) h cut is
    ∙ ap (λ b. option_map (λ l. bytes ++ l) (cond b (option_map (λ l. replicate r.count r.byte ++ l) (bytes_after (Some r.byte) more)) None)) may
    ∙ map_more bytes (replicate r.count r.byte) (bytes_after (Some r.byte) more)

-- the bytes of a run stand behind others
count_grown : (bytes : List ℕ) (n byte : ℕ) → length (bytes ++ replicate n byte) ≡ length bytes + n
count_grown bytes n byte = length-append bytes (replicate n byte) ∙ ap (λ m. length bytes + m) (length-replicate n byte)

-- a run too long
many : (bytes : List ℕ) (o : Option (List ℕ)) → nat_le (length bytes) most_bytes ≡ false → option_and_then few_bytes (option_map (λ l. bytes ++ l) o) ≡ None
many bytes None long = refl
many bytes (Some more) long =
    let longer : nat_le (length (bytes ++ more)) most_bytes ≡ false = grind (arith, nat_tests, length-append bytes more, long) in
    ap (λ b. cond b (Some (bytes ++ more)) None) longer

pub long_run : (word bytes part : List ℕ) (last : Option ℕ) (parts more : List (List ℕ)) (r : Run) → AreTaken word bytes last parts → parts ≡ part ∷ more
    → run_in part ≡ Some r → may_follow last r ≡ true → nat_le (length bytes + r.count) most_bytes ≡ false → runs_in word ≡ None
long_run word bytes part last parts more r h cut is may long =
    ap (option_and_then few_bytes) (grown_by word bytes part last parts more r h cut is may)
    ∙ many (bytes ++ replicate r.count r.byte) (bytes_after (Some r.byte) more) (ap (λ n. nat_le n most_bytes) (count_grown bytes r.count r.byte) ∙ long)

pub run_taken : (word bytes longer part : List ℕ) (last : Option ℕ) (parts more : List (List ℕ)) (r : Run) → AreTaken word bytes last parts → parts ≡ part ∷ more
    → run_in part ≡ Some r → may_follow last r ≡ true → nat_le (length bytes + r.count) most_bytes ≡ true → longer ≡ bytes ++ replicate r.count r.byte
    → AreTaken word longer (Some r.byte) more
run_taken word bytes longer part last parts more r h cut is may few grown = record {
  most = subst (λ l. length l ≤ 2 ^ 28) (sym grown) (grind (arith, nat_tests, count_grown bytes r.count r.byte, few));
  behind = grown_by word bytes part last parts more r h cut is may ∙ ap (λ l. option_map (λ x. l ++ x) (bytes_after (Some r.byte) more)) (sym grown);
}

pub all_taken : (word bytes : List ℕ) (last : Option ℕ) (parts : List (List ℕ)) → AreTaken word bytes last parts → parts ≡ [] → runs_in word ≡ Some bytes
all_taken word bytes last parts h none =
    let fits : nat_le (length bytes) most_bytes ≡ true = grind (arith, nat_tests, h.most) in
    ap (option_and_then few_bytes) (h.behind ∙ ap (λ ps. option_map (λ l. bytes ++ l) (bytes_after last ps)) none ∙ ap (λ l. Some l) (append-nil bytes))
    ∙ ap (λ b. cond b (Some bytes) None) fits
