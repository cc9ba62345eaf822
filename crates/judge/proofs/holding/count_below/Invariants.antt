-- The count so far.
use Rattle.std.proofs.Common.{◌≡◌, ◌≤◌, take}
use Rattle.std.specs.Prelude.{count_by}
use Rattle.judge.specs.Views.{is_less}
use Rattle.judge.proofs.holding.count_below.Given as goal

abbrev pub invariant-loop-other : goal.invariant-loop-other
invariant-loop-other l = record { counted : l.count ≡ count_by (is_less l.number) (take l.other-index l.numbers); few : l.count ≤ l.other-index }
