-- Where a reader stands in all the bytes that it gives.
use Rattle.std.specs.Prelude.{ℕ, List, drop, Option}
use Rattle.std.specs.Option.{option_map}

-- The bytes behind the first n, where they are known
abbrev pub behind : ℕ → Option (List ℕ) → Option (List ℕ)
behind n given = option_map (drop n) given
