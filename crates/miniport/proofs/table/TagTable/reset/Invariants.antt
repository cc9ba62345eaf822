use Rattle.std.proofs.Common.{◌≡◌}
use Rattle.miniport.specs.inside.Slots.{with_first_reset}
use Rattle.miniport.proofs.table.TagTable.reset.Given as goal

abbrev pub invariant-loop-tag : goal.invariant-loop-tag
invariant-loop-tag l = l.self ≡ with_first_reset l.tag l.initial.self
