-- The sectors so far have this size.
use Rattle.std.proofs.Common.{◌≡◌, drop, length}
use Rattle.std.specs.List.{list_all}
use Rattle.judge.specs.PieceRuling.{has_size}
use Rattle.judge.proofs.broken_pieces.have_size.Given as goal

abbrev pub invariant-loop-i : goal.invariant-loop-i
invariant-loop-i l = record {
  ends : l.i-end ≡ length l.sectors;
  same : list_all (has_size l.size) l.sectors ≡ list_all (has_size l.size) (drop l.i l.sectors);
}
