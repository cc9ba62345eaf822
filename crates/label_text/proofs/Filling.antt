-- Bytes of digits, put into their places one by one.
use Rattle.std.proofs.Common.{◌≡◌, ◌≤◌, ◌<◌, ◌+◌, ◌*◌, ◌/◌, ◌%◌, ◌^◌, ◌==◌, ◌&&◌, ◌++◌, ◌∙◌, ℕ, Bool, true, false, List, [], ◌∷◌, Option, None, Some, MatchBool, ap, arith, cond, drop, drop-cons, get_or, length, nat_le, nat_lt, refl, set, suc, sym, take}
use Rattle.std.proofs.lemmas.List.{append_assoc, append-nil, drop_all, length-set, take_all}
use Rattle.std.proofs.lemmas.Grind.{take-set_at}
use Rattle.std.proofs.lemmas.Bool.Decides.{nat_tests}
use Rattle.std.specs.Option.{option_and_then, option_map}
use Rattle.label_text.specs.Runs.{most_bytes}
use Rattle.label_text.specs.inside.Reading.{byte_of, bytes_in, digit_in, digit_told, digits_in, few_bytes}
use Rattle.label_text.proofs.Found.{map_some, then_some_of}

-- what is told of digits whose bytes so far stand in their places
abbrev AreTold : List ℕ → List ℕ → ℕ → Bool → Type 0
AreTold digits bytes at all = MatchBool all (bytes_in digits ≡ option_map (λ more. take at bytes ++ more) (bytes_in (drop (2 * at) digits))) (bytes_in digits ≡ None)

pub record AreFilled (digits bytes : List ℕ) (at : ℕ) (all : Bool) : Type 0 where
  pub long : length digits ≡ 2 * length bytes
  pub told : AreTold digits bytes at all

map_same : (o : Option (List ℕ)) → o ≡ option_map (λ more. [] ++ more) o
map_same None = refl
map_same (Some x) = refl

pub none_filled : (digits bytes : List ℕ) → length digits ≡ 2 * length bytes → AreFilled digits bytes 0 true
none_filled digits bytes long = record { long = long; told = map_same (bytes_in digits) }

map_more : (bytes : List ℕ) (byte : ℕ) (o : Option (List ℕ)) → option_map (λ more. bytes ++ more) (option_map (λ more. byte ∷ more) o) ≡ option_map (λ more. (bytes ++ byte ∷ []) ++ more) o
map_more bytes byte None = refl
map_more bytes byte (Some x) = ap (λ l. Some l) (sym (append_assoc bytes (byte ∷ []) x))

-- the next two digits
two_more : (digits : List ℕ) (at d : ℕ) → 2 * at + 1 < length digits → drop (2 * at) digits ≡ get_or digits (2 * at) d ∷ get_or digits (2 * at + 1) d ∷ drop (2 * (at + 1)) digits
two_more digits at d inside =
    let one : suc (2 * at) ≡ 2 * at + 1 = omega arith in
    let two : suc (2 * at + 1) ≡ 2 * (at + 1) = omega arith in
    drop-cons digits (2 * at) d (omega arith)
    ∙ ap (λ l. get_or digits (2 * at) d ∷ l)
    (ap (λ n. drop n digits) one ∙ drop-cons digits (2 * at + 1) d inside ∙ ap (λ n. get_or digits (2 * at + 1) d ∷ drop n digits) two)

-- what a byte of two digits is, by what is told of each
byte_told : (high low h l : ℕ) → digit_told h ≡ digit_in high → digit_told l ≡ digit_in low
    → byte_of high low ≡ option_and_then (λ x. option_map (λ y. x * 16 + y) (digit_told l)) (digit_told h)
byte_told high low h l is_high is_low = λ i. option_and_then (λ x. option_map (λ y. x * 16 + y) (sym is_low i)) (sym is_high i)

told_if : (h l : ℕ) (t u : Bool) → nat_lt h 16 ≡ t → nat_lt l 16 ≡ u
    → option_and_then (λ x. option_map (λ y. x * 16 + y) (cond u (Some l) None)) (cond t (Some h) None)
    ≡ cond (t && u) (Some (h % 16 * 16 + l % 16)) None
told_if h l true true is_h is_l =
    let high : h < 16 = grind (arith, nat_tests, is_h) in
    let low : l < 16 = grind (arith, nat_tests, is_l) in
    ap (λ n. Some n) (omega (arith, high, low))
told_if h l true false is_h is_l = refl
told_if h l false u is_h is_l = refl

pair_told : (high low h l : ℕ) → digit_told h ≡ digit_in high → digit_told l ≡ digit_in low
    → byte_of high low ≡ cond (nat_lt h 16 && nat_lt l 16) (Some (h % 16 * 16 + l % 16)) None
pair_told high low h l is_high is_low = byte_told high low h l is_high is_low ∙ told_if h l (nat_lt h 16) (nat_lt l 16) refl refl

-- what is read behind the bytes so far, by the next of them
abbrev after : List ℕ → List ℕ → Option ℕ → Option (List ℕ)
after bytes rest o = option_map (λ more. bytes ++ more) (option_and_then (λ byte. option_map (λ more. byte ∷ more) (bytes_in rest)) o)

stepped : (digits bytes : List ℕ) (at byte : ℕ) (t : Bool) → at < length bytes
    → bytes_in digits ≡ after (take at bytes) (drop (2 * (at + 1)) digits) (cond t (Some byte) None)
    → AreTold digits (set bytes at byte) (at + 1) t
stepped digits bytes at byte true inside is =
    is ∙ map_more (take at bytes) byte (bytes_in (drop (2 * (at + 1)) digits))
    ∙ ap (λ l. option_map (λ more. l ++ more) (bytes_in (drop (2 * (at + 1)) digits))) (sym (take-set_at bytes at (at + 1) byte (omega arith) inside))
stepped digits bytes at byte false inside is = is

told_by : (digits bytes : List ℕ) (at d h l : ℕ) (all : Bool) → at < length bytes → length digits ≡ 2 * length bytes
    → digit_told h ≡ digit_in (get_or digits (2 * at) d) → digit_told l ≡ digit_in (get_or digits (2 * at + 1) d) → AreTold digits bytes at all
    → AreTold digits (set bytes at (h % 16 * 16 + l % 16)) (at + 1) ((all && nat_lt h 16) && nat_lt l 16)
told_by digits bytes at d h l false inside long is_high is_low told = told
told_by digits bytes at d h l true inside long is_high is_low told =
    stepped digits bytes at (h % 16 * 16 + l % 16) (nat_lt h 16 && nat_lt l 16) inside
    (told
    ∙ ap (λ ds. option_map (λ more. take at bytes ++ more) (bytes_in ds)) (two_more digits at d (omega (arith, inside, long)))
    ∙ ap (after (take at bytes) (drop (2 * (at + 1)) digits)) (pair_told (get_or digits (2 * at) d) (get_or digits (2 * at + 1) d) h l is_high is_low))

-- a byte more
pub one_filled : (digits bytes : List ℕ) (at d h l : ℕ) (all : Bool) → at < length bytes → digit_told h ≡ digit_in (get_or digits (2 * at) d)
    → digit_told l ≡ digit_in (get_or digits (2 * at + 1) d) → AreFilled digits bytes at all
    → AreFilled digits (set bytes at (h % 16 * 16 + l % 16)) (at + 1) ((all && nat_lt h 16) && nat_lt l 16)
one_filled digits bytes at d h l all inside is_high is_low before = record {
  long = before.long ∙ ap (λ n. 2 * n) (sym (length-set bytes at (h % 16 * 16 + l % 16)));
  told = told_by digits bytes at d h l all inside before.long is_high is_low before.told;
}

-- all of them
pub all_filled : (digits bytes : List ℕ) (at : ℕ) (all : Bool) → length bytes ≤ at → AreFilled digits bytes at all → MatchBool all (bytes_in digits ≡ Some bytes) (bytes_in digits ≡ None)
all_filled digits bytes at false over h = h.told
all_filled digits bytes at true over h =
    h.told ∙ ap (λ ds. option_map (λ more. take at bytes ++ more) (bytes_in ds)) (drop_all (2 * at) digits (omega (arith, over, h.long)))
    ∙ ap (λ l. Some l) (append-nil (take at bytes) ∙ take_all at bytes over)

-- WHAT TAKES NO MEMORY

-- two digits a byte
pub bytes_long : (digits bytes : List ℕ) → bytes_in digits ≡ Some bytes → length digits ≡ 2 * length bytes
bytes_long [] bytes h = let none : [] ≡ bytes = cc (h) in ap (λ l. 2 * length l) none
bytes_long (x ∷ []) bytes h = absurd (cc (h))
bytes_long (x ∷ y ∷ digits) bytes h =
    let b = then_some_of (λ byte. option_map (λ bytes. byte ∷ bytes) (bytes_in digits)) (byte_of x y) bytes h in
    let more = map_some (λ bytes. b.0 ∷ bytes) (bytes_in digits) bytes b.2 in
    let rest = bytes_long digits more.0 more.1 in
    let same : length (b.0 ∷ more.0) ≡ length bytes = ap length more.2 in
    omega (arith, rest, same)

none_by : (digits : List ℕ) (o : Option (List ℕ)) → bytes_in digits ≡ o → ((bytes : List ℕ) → o ≡ Some bytes → few_bytes bytes ≡ None) → option_and_then few_bytes o ≡ None
none_by digits None is h = refl
none_by digits (Some bytes) is h = h bytes refl

pub no_digits : (digits : List ℕ) → (length digits == 0) ≡ true → digits_in digits ≡ None
no_digits digits none = ap (λ t. cond t None (option_and_then few_bytes (bytes_in digits))) none

digits_by : (digits : List ℕ) (t : Bool) → option_and_then few_bytes (bytes_in digits) ≡ None → cond t None (option_and_then few_bytes (bytes_in digits)) ≡ None
digits_by digits true h = refl
digits_by digits false h = h

pub one_left : (digits : List ℕ) → ¬ (length digits % 2 ≡ 0) → digits_in digits ≡ None
one_left digits odd = digits_by digits (length digits == 0) (none_by digits (bytes_in digits) refl (λ bytes is. let long = bytes_long digits bytes is in absurd (odd (omega (arith, long)))))

pub too_many : (digits : List ℕ) → 2 ^ 28 < length digits / 2 → digits_in digits ≡ None
too_many digits many =
    digits_by digits (length digits == 0)
    (none_by digits (bytes_in digits) refl (λ bytes is.
    let long = bytes_long digits bytes is in
    let not_few : nat_le (length bytes) most_bytes ≡ false = grind (arith, nat_tests, long, many) in
    ap (λ t. cond t (Some bytes) None) not_few))

-- WHAT IS DECODED

pub decoded_is : (digits bytes : List ℕ) → (length digits == 0) ≡ false → length digits / 2 ≤ 2 ^ 28 → bytes_in digits ≡ Some bytes → digits_in digits ≡ Some bytes
decoded_is digits bytes some few is =
    let long = bytes_long digits bytes is in
    let fits : nat_le (length bytes) most_bytes ≡ true = grind (arith, nat_tests, long, few) in
    ap (λ t. cond t None (option_and_then few_bytes (bytes_in digits))) some ∙ ap (option_and_then few_bytes) is ∙ ap (λ t. cond t (Some bytes) None) fits

pub not_decoded : (digits : List ℕ) → bytes_in digits ≡ None → digits_in digits ≡ None
not_decoded digits none = digits_by digits (length digits == 0) (ap (option_and_then few_bytes) none)
