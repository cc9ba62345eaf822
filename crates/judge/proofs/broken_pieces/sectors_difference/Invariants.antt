-- What differs is in what is left.
use Rattle.std.proofs.Common.{◌≡◌, ◌≤◌, ◌-◌, length, drop}
use Rattle.std.specs.List.{concat}
use Rattle.judge.specs.Ruling.{difference}
use Rattle.judge.proofs.broken_pieces.sectors_difference.Given as goal

abbrev pub invariant-loop-i : goal.invariant-loop-i
invariant-loop-i l = record {
  ends : l.i-end ≡ length l.sectors;
  within : length l.rest ≤ length l.told;
  same : difference 0 (concat l.sectors) l.told ≡ difference (length l.told - length l.rest) (concat (drop l.i l.sectors)) l.rest;
}
