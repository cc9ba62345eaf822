-- Bytes of zeros.
use Rattle.std.specs.Prelude.{ℕ, ◌==◌, Bool}

abbrev pub is_zero : ℕ → Bool
is_zero byte = byte == 0
