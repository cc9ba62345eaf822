use Rattle.std.proofs.Common.{◌≡◌, ◌<◌, ℕ, length}
use Rattle.compose.proofs.FirstSectors.{IsFirstAt}
use Rattle.compose.proofs.start.first_sectors_of.Given as goal

abbrev pub invariant-loop-partition : goal.invariant-loop-partition
invariant-loop-partition l = (length l.firsts ≡ 4) × ((p : ℕ) → p < l.partition → IsFirstAt l.firsts l.fn.partitions p)
