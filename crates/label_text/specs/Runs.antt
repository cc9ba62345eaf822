-- Bytes in print: each run of equal bytes as BYTE*COUNT, the runs joined by commas; or x and two digits a byte.
use Rattle.std.specs.Prelude.{ℕ, ◌+◌, ◌/◌, ◌%◌, ◌==◌, ◌^◌, ◌<◌, ◌≤◌, length, nat_lt, All, List, [], ◌∷◌, ◌++◌, map, replicate, if◌then◌else◌}
use Rattle.std.specs.Fmt.{decimal}
use Rattle.std.specs.List.{join_with_byte}

-- the hexadecimal digit of a value below 16: 0 to 9, a to f
abbrev pub digit_of : ℕ → ℕ
digit_of value = if nat_lt value 10 then 48 + value else 87 + value

-- a byte as two hexadecimal digits
abbrev pub hex_of : ℕ → List ℕ
hex_of byte = digit_of (byte / 16) ∷ digit_of (byte % 16) ∷ []

-- bytes as hexadecimal digits
abbrev pub hex_bytes : List ℕ → List ℕ
hex_bytes [] = []
hex_bytes (byte ∷ bytes) = hex_of byte ++ hex_bytes bytes

-- bytes in print without runs: x, and their digits
abbrev pub digits_text : List ℕ → List ℕ
digits_text bytes = 120 ∷ hex_bytes bytes

-- a run of equal bytes: the byte, and how many
pub record Run : Type 0 where
  pub byte : ℕ
  pub count : ℕ

-- the bytes of runs, one after the other
abbrev pub expanded : List Run → List ℕ
expanded [] = []
expanded (run ∷ runs) = replicate run.count run.byte ++ expanded runs

-- a byte that joins the runs of the bytes behind it
abbrev pub joined : ℕ → List Run → List Run
joined byte [] = record { byte = byte; count = 1 } ∷ []
joined byte (run ∷ runs) =
    if run.byte == byte then record { byte = byte; count = run.count + 1 } ∷ runs else record { byte = byte; count = 1 } ∷ run ∷ runs

-- the longest runs of equal bytes
abbrev pub runs_of : List ℕ → List Run
runs_of [] = []
runs_of (byte ∷ bytes) = joined byte (runs_of bytes)

-- a run in print: its byte, *, and its length
abbrev pub run_text : Run → List ℕ
run_text run = join_with_byte 42 (hex_of run.byte ∷ decimal run.count ∷ [])

-- runs in print, joined by commas
abbrev pub runs_text : List Run → List ℕ
runs_text runs = join_with_byte 44 (map run_text runs)

-- the byte is one, and the run is shorter than 2^64
pub record IsShort (run : Run) : Type 0 where
  pub byte : run.byte < 2 ^ 8
  pub count : run.count < 2 ^ 64

-- the most bytes of a label: those of the longest request, which has 65,536 sectors of 4,096
abbrev pub most_bytes : ℕ
most_bytes = 2 ^ 28

-- bytes that can stand in a label
pub record AreBytes (bytes : List ℕ) : Type 0 where
  pub most : length bytes ≤ most_bytes
  pub each : All IsShort (runs_of bytes)
