-- The sectors of a partition. Only the written ones take memory.
use Rattle.std.specs.Prelude.{◌≡◌, ℕ, List, map, Option, option_map, unwrap_or}
use Rattle.std.specs.List.{range_with_len}
use Rattle.std.specs.Ordering.{nat_cmp}
use Rattle.std.specs.Global.{Vec}
use Rattle.std.specs.BTreeMap.{BTreeMap, get}

-- the sectors that were written, by their numbers
abbrev pub Written : Type 0
Written = BTreeMap ℕ (Vec ℕ)

-- what was written to a sector last, if anything was
abbrev pub held : Written → ℕ → Option (List ℕ)
held written at = option_map (λ bytes. bytes.items) (get nat_cmp written at)

-- a sector: what was written to it last, or else the bytes that each sector had at first
abbrev pub sector_of : List ℕ → Written → ℕ → List ℕ
sector_of blank written at = unwrap_or (held written at) blank

-- the first sectors of a partition, this many
abbrev pub sectors_of : List ℕ → ℕ → Written → List (List ℕ)
sectors_of blank count written = map (sector_of blank written) (range_with_len 0 count)

-- two partitions have the same written sectors, with the same bytes
abbrev pub AreHeld : Written → Written → Type 0
AreHeld a b = (at : ℕ) → held a at ≡ held b at
