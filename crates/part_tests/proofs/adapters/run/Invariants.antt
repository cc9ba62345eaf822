use Rattle.std.proofs.Common.{◌≡◌, ◌≤◌, length}
use Rattle.part_tests.proofs.adapters.run.Given as goal

abbrev pub invariant-loop-step : goal.invariant-loop-step
invariant-loop-step g l = record {
  few : (g.A.Adapter.view l.adapter).accepted ≤ l.step-index;
  labels : length (g.A.Adapter.view l.adapter).labels ≤ l.step-index;
}
