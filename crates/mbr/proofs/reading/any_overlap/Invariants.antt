use Rattle.std.proofs.Common.{◌≡◌, drop}
use Rattle.mbr.specs.Faults.{any_share}
use Rattle.mbr.proofs.reading.any_overlap.Given as goal

-- if two share a sector, two of the rest do
abbrev pub invariant-loop-n : goal.invariant-loop-n
invariant-loop-n l = any_share l.extents ≡ any_share (drop l.n l.extents)
