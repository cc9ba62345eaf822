use Rattle.std.proofs.Common.{◌≡◌, ◌-◌, ◌≤◌}
use Rattle.judge.specs.StartRuling.{lowest_free}
use Rattle.judge.proofs.broken_starts.lowest_free.Given as goal

abbrev pub invariant-loop-lower : goal.invariant-loop-lower
invariant-loop-lower l = record { low : l.lower ≤ l.tag; same : lowest_free l.pieces 0 l.tag ≡ lowest_free l.pieces l.lower (l.tag - l.lower) }
