use Rattle.std.proofs.Common.{◌≡◌}
use Rattle.history_loss_sector.specs.Seen.{seen_after, shared_in, turned_sight}
use Rattle.history_loss_judge.proofs.Turning.{changed_to}
use Rattle.history_loss_judge.proofs.cells.turn_each.Given as goal

-- those so far have taken it
abbrev pub invariant-loop-at : goal.invariant-loop-at
invariant-loop-at l = l.cells.items ≡ changed_to (seen_after (shared_in l.shared) (turned_sight l.fn.how)) l.at l.initial.cells.items
