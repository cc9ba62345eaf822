use Rattle.std.proofs.Common.{◌≡◌, ◌≤◌}
use Rattle.part_tests.proofs.gates.churn.Given as goal

abbrev pub invariant-loop : goal.invariant-loop
invariant-loop l = (l.pass.gate ≡ l.gate) × (l.pass.view.holds ≡ 0) × (l.taken ≤ l.counter)
