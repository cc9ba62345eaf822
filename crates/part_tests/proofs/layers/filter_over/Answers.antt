-- With the filter's own location there are two.
use Rattle.std.proofs.Common.{◌≤◌, ℕ, sym, subst, arith}
use Rattle.hold_filter.specs.Opening.{stack_over}
use Rattle.part_tests.proofs.layers.filter_over.Goals as goal

pub try_all_held-requires-clause-locations : goal.try_all_held-requires-clause-locations
try_all_held-requires-clause-locations g c = subst (λ (n : ℕ). stack_over n ≤ 4) (sym c.requires.locations) (omega arith)
