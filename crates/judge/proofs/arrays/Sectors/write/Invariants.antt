-- The sectors so far are written.
use Rattle.std.proofs.Common.{◌≡◌, ◌+◌, min, length}
use Rattle.sector.specs.Splice.{splice}
use Rattle.judge.proofs.arrays.Sectors.write.Given as goal

abbrev pub invariant-loop-sector : goal.invariant-loop-sector
invariant-loop-sector l = record {
  place : l.number ≡ min l.first (length l.initial.self) + length l.yielded;
  written : l.self ≡ splice l.initial.self l.first l.yielded;
}
