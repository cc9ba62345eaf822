use Rattle.traced.proofs.Common.{◌≡◌, replicate, blank}
use Rattle.traced.proofs.row.empty_rows.Given as goal

abbrev pub invariant-loop : goal.invariant-loop
invariant-loop l = l.rows.items ≡ replicate l.counter blank
