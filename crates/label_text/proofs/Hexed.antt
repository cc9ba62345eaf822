-- Bytes in digits, one by one.
use Rattle.std.proofs.Common.{◌≡◌, ◌≤◌, ◌<◌, ◌+◌, ◌*◌, ◌/◌, ◌%◌, ◌==◌, ◌++◌, ◌∙◌, ℕ, List, [], ◌∷◌, Option, None, Some, ap, arith, cond, drop, false, get_or, length, length-append, nat_le, refl, set, slice_index, sym, take, true}
use Rattle.std.proofs.lemmas.List.{append_assoc, append-nil, length-set, take_all, take_more}
use Rattle.std.proofs.lemmas.Grind.{take-set_at}
use Rattle.std.proofs.lemmas.Bool.Decides.{nat_tests}
use Rattle.std.specs.Option.{option_and_then, option_map}
use Rattle.label_text.specs.Runs.{digit_of, hex_bytes, hex_of}
use Rattle.label_text.specs.inside.Reading.{block_in, byte_of, bytes_in, short_block}

hex_append : (xs ys : List ℕ) → hex_bytes (xs ++ ys) ≡ hex_bytes xs ++ hex_bytes ys
hex_append [] ys = refl
hex_append (x ∷ xs) ys = ap (λ l. hex_of x ++ l) (hex_append xs ys) ∙ sym (append_assoc (hex_of x) (hex_bytes xs) (hex_bytes ys))

-- the digits of so many bytes stand first
pub record AreHexed (bytes : List ℕ) (count at : ℕ) (digits : List ℕ) : Type 0 where
  pub long : length digits ≡ 32
  pub place : at ≡ 2 * count
  pub done : take at digits ≡ hex_bytes (take count bytes)

-- two digits more
pub one_hexed : (bytes : List ℕ) (count at : ℕ) (digits : List ℕ) (high low d : ℕ) → length bytes ≤ 16 → count < length bytes → AreHexed bytes count at digits
    → high ≡ digit_of (get_or bytes count d / 16) → low ≡ digit_of (get_or bytes count d % 16) → AreHexed bytes (count + 1) (at + 2) (set (set digits at high) (at + 1) low)
one_hexed bytes count at digits high low d few inside h is_high is_low = record {
  long = length-set (set digits at high) (at + 1) low ∙ length-set digits at high ∙ h.long;
  place = omega (arith, h.place);
  done = two ∙ (ap (λ l. (l ++ high ∷ []) ++ low ∷ []) h.done ∙ append_assoc (hex_bytes (take count bytes)) (high ∷ []) (low ∷ [])
      ∙ (λ i. hex_bytes (take count bytes) ++ is_high i ∷ is_low i ∷ []) ∙ sym (hex_append (take count bytes) (get_or bytes count d ∷ []))
      ∙ ap hex_bytes (sym (take_more bytes count d inside)));
}
  where
    low_place : at < length digits
    low_place = omega (arith, h.place, h.long)

    next_place : at + 1 < length (set digits at high)
    next_place = omega (arith, h.place, h.long, length-set digits at high)

    two : take (at + 2) (set (set digits at high) (at + 1) low) ≡ (take at digits ++ high ∷ []) ++ low ∷ []
    two = take-set_at (set digits at high) (at + 1) (at + 2) low (omega arith) next_place
        ∙ ap (λ l. l ++ low ∷ []) (take-set_at digits at (at + 1) high (omega arith) low_place)

pub all_hexed : (bytes : List ℕ) (count at : ℕ) (digits : List ℕ) → AreHexed bytes count at digits → count ≡ length bytes → take (2 * length bytes) digits ≡ hex_bytes bytes
all_hexed bytes count at digits h all =
    let place : 2 * length bytes ≡ at = omega (arith, all, h.place) in
    ap (λ n. take n digits) place ∙ h.done ∙ ap hex_bytes (take_all count bytes (omega (arith, all)))

-- what is read of digits begins with these bytes
pub record BeginsWith (digits bytes rest : List ℕ) : Type 0 where
  pub short : length bytes ≤ 16
  pub behind : bytes_in digits ≡ option_map (λ more. bytes ++ more) (bytes_in rest)

map_same : (o : Option (List ℕ)) → o ≡ option_map (λ more. [] ++ more) o
map_same None = refl
map_same (Some x) = refl

pub begins : (digits : List ℕ) → BeginsWith digits [] digits
begins digits = record { short = omega arith; behind = map_same (bytes_in digits) }

map_more : (bytes : List ℕ) (byte : ℕ) (o : Option (List ℕ)) → option_map (λ more. bytes ++ more) (option_map (λ more. byte ∷ more) o) ≡ option_map (λ more. (bytes ++ byte ∷ []) ++ more) o
map_more bytes byte None = refl
map_more bytes byte (Some x) = ap (λ l. Some l) (sym (append_assoc bytes (byte ∷ []) x))

stepped : (digits bytes rest behind : List ℕ) (high low byte : ℕ) → BeginsWith digits bytes rest → rest ≡ high ∷ low ∷ behind → byte_of high low ≡ Some byte
    → bytes_in digits ≡ option_map (λ more. (bytes ++ byte ∷ []) ++ more) (bytes_in behind)
stepped digits bytes rest behind high low byte h cut is =
    h.behind ∙ ap (λ l. option_map (λ more. bytes ++ more) (bytes_in l)) cut
    ∙ ap (λ o. option_map (λ more. bytes ++ more) (option_and_then (λ b. option_map (λ more. b ∷ more) (bytes_in behind)) o)) is
    ∙ map_more bytes byte (bytes_in behind)

pub goes_on : (digits bytes more rest behind : List ℕ) (high low byte : ℕ) → BeginsWith digits bytes rest → rest ≡ high ∷ low ∷ behind → byte_of high low ≡ Some byte
    → more ≡ bytes ++ byte ∷ [] → length more ≤ 16 → BeginsWith digits more behind
goes_on digits bytes more rest behind high low byte h cut is pushed short = record {
  short = short;
  behind = stepped digits bytes rest behind high low byte h cut is ∙ ap (λ l. option_map (λ after. l ++ after) (bytes_in behind)) (sym pushed);
}

-- digits that are none
pub no_digits : (digits bytes rest behind : List ℕ) (high low : ℕ) → BeginsWith digits bytes rest → rest ≡ high ∷ low ∷ behind → byte_of high low ≡ None
    → option_and_then short_block (bytes_in digits) ≡ None
no_digits digits bytes rest behind high low h cut none =
    ap (option_and_then short_block)
    (h.behind ∙ ap (λ l. option_map (λ more. bytes ++ more) (bytes_in l)) cut
    ∙ ap (λ o. option_map (λ more. bytes ++ more) (option_and_then (λ b. option_map (λ more. b ∷ more) (bytes_in behind)) o)) none)

-- more than sixteen bytes
too_long : (bytes : List ℕ) (o : Option (List ℕ)) → 17 ≤ length bytes → option_and_then short_block (option_map (λ more. bytes ++ more) o) ≡ None
too_long bytes None long = refl
too_long bytes (Some more) long =
    let not_short : nat_le (length (bytes ++ more)) 16 ≡ false = grind (arith, nat_tests, length-append bytes more) in ap (λ b. cond b (Some (bytes ++ more)) None) not_short

pub no_room : (digits bytes rest behind : List ℕ) (high low byte : ℕ) → BeginsWith digits bytes rest → rest ≡ high ∷ low ∷ behind → byte_of high low ≡ Some byte
    → 16 ≤ length bytes → option_and_then short_block (bytes_in digits) ≡ None
no_room digits bytes rest behind high low byte h cut is full =
    ap (option_and_then short_block) (stepped digits bytes rest behind high low byte h cut is)
    ∙ too_long (bytes ++ byte ∷ []) (bytes_in behind) (omega (arith, length-append bytes (byte ∷ [])))

-- two digits stand first
two_first : (rest : List ℕ) → 2 ≤ length rest → rest ≡ slice_index rest 0 ∷ slice_index rest 1 ∷ drop 2 rest
two_first [] two = absurd (omega arith)
two_first (x ∷ []) two = absurd (omega arith)
two_first (x ∷ y ∷ rest) two = refl

pub goes_on_at : (digits bytes more rest behind : List ℕ) (byte : ℕ) → BeginsWith digits bytes rest → 2 ≤ length rest → behind ≡ drop 2 rest
    → byte_of (slice_index rest 0) (slice_index rest 1) ≡ Some byte → more ≡ bytes ++ byte ∷ [] → length more ≤ 16 → BeginsWith digits more behind
goes_on_at digits bytes more rest behind byte h two cut is pushed short =
    goes_on digits bytes more rest behind (slice_index rest 0) (slice_index rest 1) byte h
    (two_first rest two ∙ ap (λ l. slice_index rest 0 ∷ slice_index rest 1 ∷ l) (sym cut)) is pushed short

pub no_room_at : (digits bytes rest : List ℕ) (byte : ℕ) → BeginsWith digits bytes rest → 2 ≤ length rest → byte_of (slice_index rest 0) (slice_index rest 1) ≡ Some byte
    → 16 ≤ length bytes → option_and_then short_block (bytes_in digits) ≡ None
no_room_at digits bytes rest byte h two is full =
    no_room digits bytes rest (drop 2 rest) (slice_index rest 0) (slice_index rest 1) byte h (two_first rest two) is full

pub full_block : (digits bytes rest : List ℕ) (byte : ℕ) → (length digits == 0) ≡ false → BeginsWith digits bytes rest → 2 ≤ length rest
    → byte_of (slice_index rest 0) (slice_index rest 1) ≡ Some byte → 16 ≤ length bytes → None ≡ block_in digits
full_block digits bytes rest byte some h two is full =
    sym (ap (λ t. cond t None (option_and_then short_block (bytes_in digits))) some ∙ no_room_at digits bytes rest byte h two is full)

-- a digit too many
pub one_digit : (digits bytes rest : List ℕ) → BeginsWith digits bytes rest → length rest ≡ 1 → option_and_then short_block (bytes_in digits) ≡ None
one_digit digits bytes [] h one = absurd (omega arith)
one_digit digits bytes (x ∷ []) h one = ap (option_and_then short_block) h.behind
one_digit digits bytes (x ∷ y ∷ rest) h one = absurd (omega arith)

-- all digits
pub all_digits : (digits bytes rest : List ℕ) → BeginsWith digits bytes rest → rest ≡ [] → option_and_then short_block (bytes_in digits) ≡ Some bytes
all_digits digits bytes rest h none =
    let fits : nat_le (length bytes) 16 ≡ true = grind (arith, nat_tests, h.short) in
    ap (option_and_then short_block) (h.behind ∙ ap (λ l. option_map (λ more. bytes ++ more) (bytes_in l)) none ∙ ap (λ l. Some l) (append-nil bytes))
    ∙ ap (λ b. cond b (Some bytes) None) fits
