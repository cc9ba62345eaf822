-- Bytes as values of a register: a number for each list.
use Rattle.std.specs.Prelude.{◌≡◌, ℕ, zero, suc, ◌+◌, ◌*◌, List, [], ◌∷◌}

-- an odd number, doubled so many times
abbrev pub doubled : ℕ → ℕ → ℕ
doubled zero n = 2 * n + 1
doubled (suc times) n = 2 * doubled times n

-- the number of some bytes: each doubles as often as it says
unfoldable pub code : List ℕ → ℕ
code [] = 0
code (byte ∷ bytes) = doubled byte (code bytes)

-- different bytes have different numbers
abbrev pub CodesTell : Type 0
CodesTell = (a b : List ℕ) → code a ≡ code b → a ≡ b
