-- Where a text is cut, and what its digits are worth.
use denote.Ref.{Bor}
use Rattle.std.specs.Prelude.{◌≡◌, ◌<◌, ◌==◌, ◌+◌, ◌*◌, ◌^◌, ℕ, List, Option, MatchOption, length}
use Rattle.std.specs.Char.{digit_value}
use Rattle.std.specs.List.{after_first, before_first, position_or_len}
use Rattle.std.specs.Str.Parse.{AllDigits, digits_value}

-- a text is cut at its first byte that is this one, which stands in neither part; it is not cut where none is
abbrev pub IsCut : ℕ → List ℕ → Option (Bor (List ℕ) × Bor (List ℕ)) → Type 0
IsCut byte text cut = MatchOption cut
    (position_or_len (λ b. b == byte) text ≡ length text)
    (λ parts. (parts.0.now ≡ before_first (λ b. b == byte) text)
    × (parts.1.now ≡ after_first (λ b. b == byte) text)
    × (position_or_len (λ b. b == byte) text < length text))

-- a number with one decimal digit behind it is a number below 2^64
pub record IsLonger (number byte longer : ℕ) : Type 0 where
  pub digit : digit_value byte < 10
  pub value : longer ≡ number * 10 + digit_value byte
  pub range : longer < 2 ^ 64

-- decimal digits, or none, spell a number below 2^64
pub record AreWorth (digits : List ℕ) (number : ℕ) : Type 0 where
  pub decimal : AllDigits 10 digits
  pub value : number ≡ digits_value 10 digits
  pub range : number < 2 ^ 64
