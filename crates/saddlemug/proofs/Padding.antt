-- A command block with zeros behind it.
use Rattle.std.proofs.Common.{◌≡◌, ◌-◌, ℕ, List, drop, replicate, ◌∙◌}
use Rattle.std.proofs.lemmas.List.{drop-replicate}

-- what stood behind it was zeros, and still is
pub zeros_behind : (count : ℕ) (after : List ℕ) → drop count after ≡ drop count (replicate 16 0) → drop count after ≡ replicate (16 - count) 0
zeros_behind count after same = same ∙ drop-replicate count 16 0
