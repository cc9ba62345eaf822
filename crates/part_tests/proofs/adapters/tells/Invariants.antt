use Rattle.std.proofs.Common.{◌≡◌}
use Rattle.part_tests.proofs.adapters.tells.Given as goal

abbrev pub invariant-loop-w : goal.invariant-loop-w
invariant-loop-w g l = (g.A.Adapter.view l.adapter).accepted ≡ (g.A.Adapter.view l.initial.adapter).accepted
