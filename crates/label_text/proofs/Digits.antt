-- Hexadecimal digits, as they are written and read.
use Rattle.std.proofs.Common.{◌≡◌, ◌^◌, ◌<◌, ◌+◌, ◌*◌, ◌/◌, ◌%◌, ◌∙◌, ℕ, List, [], ◌∷◌, Some, All, arith, ap, refl, subst}
use Rattle.std.specs.Option.{option_and_then, option_map}
use Rattle.std.proofs.lemmas.Bool.Decides.{nat_tests}
use Rattle.std.proofs.lemmas.List.Elements.{All-cons, All-nil, All-head, All-tail}
use Rattle.label_text.specs.Runs.{digit_of, hex_bytes, hex_of}
use Rattle.label_text.specs.inside.Reading.{byte_in, byte_of, bytes_in, digit_in}
use Rattle.label_text.proofs.Numbers.{IsAbove}
use Rattle.label_text.proofs.Found.{map_some, then_some_of}

digit_is : (v : ℕ) → v < 16 → digit_in (digit_of v) ≡ Some v
digit_is v small = grind (arith, nat_tests)

digit_above : (v : ℕ) → 47 < digit_of v
digit_above v = grind (arith, nat_tests)

digit_some : (c v : ℕ) → digit_in c ≡ Some v → (c ≡ digit_of v) × (v < 16)
digit_some c v h = grind (arith, nat_tests)

pub byte_is : (b : ℕ) → b < 2 ^ 8 → byte_of (digit_of (b / 16)) (digit_of (b % 16)) ≡ Some b
byte_is b small =
    ap (λ h. option_and_then (λ x. option_map (λ y. x * 16 + y) (digit_in (digit_of (b % 16)))) h) (digit_is (b / 16) (omega arith))
    ∙ ap (λ l. option_map (λ y. b / 16 * 16 + y) l) (digit_is (b % 16) (omega arith))
    ∙ ap (λ v. Some v) (omega arith)

pub byte_some : (high low b : ℕ) → byte_of high low ≡ Some b → (high ≡ digit_of (b / 16)) × (low ≡ digit_of (b % 16)) × (b < 2 ^ 8)
byte_some high low b h =
    let x = then_some_of (λ x. option_map (λ y. x * 16 + y) (digit_in low)) (digit_in high) b h in
    let y = map_some (λ y. x.0 * 16 + y) (digit_in low) b x.2 in
    let up = digit_some high x.0 x.1 in
    let down = digit_some low y.0 y.1 in
    let above : x.0 ≡ b / 16 = omega (arith, y.2, up.1, down.1) in
    let below : y.0 ≡ b % 16 = omega (arith, y.2, up.1, down.1) in
    (up.0 ∙ ap digit_of above, down.0 ∙ ap digit_of below, omega (arith, y.2, up.1, down.1))

pub hex_above : (b : ℕ) → IsAbove 47 (hex_of b)
hex_above b =
    All-cons (λ x. 47 < x) (digit_of (b / 16)) (digit_of (b % 16) ∷ []) (digit_above (b / 16))
    (All-cons (λ x. 47 < x) (digit_of (b % 16)) [] (digit_above (b % 16)) (All-nil (λ x. 47 < x)))

pub hex_is : (b : ℕ) → b < 2 ^ 8 → byte_in (hex_of b) ≡ Some b
hex_is b small = byte_is b small

pub hex_some : (word : List ℕ) (b : ℕ) → byte_in word ≡ Some b → (word ≡ hex_of b) × (b < 2 ^ 8)
hex_some [] b h = absurd (cc (h))
hex_some (x ∷ []) b h = absurd (cc (h))
hex_some (x ∷ y ∷ z ∷ zs) b h = absurd (cc (h))
hex_some (x ∷ y ∷ []) b h = let is = byte_some x y b h in ((λ i. is.0 i ∷ is.1 i ∷ []), is.2)

-- bytes, two digits each
pub hex_bytes_is : (bs : List ℕ) → All (λ b. b < 2 ^ 8) bs → bytes_in (hex_bytes bs) ≡ Some bs
hex_bytes_is [] h = refl
hex_bytes_is (b ∷ bs) h =
    ap (λ o. option_and_then (λ byte. option_map (λ bytes. byte ∷ bytes) (bytes_in (hex_bytes bs))) o) (byte_is b (All-head (λ b. b < 2 ^ 8) b bs h))
    ∙ ap (option_map (λ bytes. b ∷ bytes)) (hex_bytes_is bs (All-tail (λ b. b < 2 ^ 8) b bs h))

pub hex_bytes_some : (word bs : List ℕ) → bytes_in word ≡ Some bs → (word ≡ hex_bytes bs) × All (λ b. b < 2 ^ 8) bs
hex_bytes_some [] bs h = let none : [] ≡ bs = cc (h) in subst (λ xs. ([] ≡ hex_bytes xs) × All (λ b. b < 2 ^ 8) xs) none (refl, All-nil (λ b. b < 2 ^ 8))
hex_bytes_some (x ∷ []) bs h = absurd (cc (h))
hex_bytes_some (x ∷ y ∷ digits) bs h =
    let b = then_some_of (λ byte. option_map (λ bytes. byte ∷ bytes) (bytes_in digits)) (byte_of x y) bs h in
    let more = map_some (λ bytes. b.0 ∷ bytes) (bytes_in digits) bs b.2 in
    let is = byte_some x y b.0 b.1 in
    let rest = hex_bytes_some digits more.0 more.1 in
    subst (λ xs. (x ∷ y ∷ digits ≡ hex_bytes xs) × All (λ b. b < 2 ^ 8) xs) more.2
    ((λ i. is.0 i ∷ is.1 i ∷ rest.0 i), All-cons (λ b. b < 2 ^ 8) b.0 more.0 is.2 rest.1)

pub hex_bytes_above : (bs : List ℕ) → IsAbove 47 (hex_bytes bs)
hex_bytes_above [] = All-nil (λ x. 47 < x)
hex_bytes_above (b ∷ bs) =
    All-cons (λ x. 47 < x) (digit_of (b / 16)) (digit_of (b % 16) ∷ hex_bytes bs) (digit_above (b / 16))
    (All-cons (λ x. 47 < x) (digit_of (b % 16)) (hex_bytes bs) (digit_above (b % 16)) (hex_bytes_above bs))
