use Rattle.std.proofs.Common.{◌≡◌, ◌≤◌, false, length, drop}
use Rattle.std.specs.List.{list_any}
use Rattle.history_loss_sector.specs.Seen.{is_for}
use Rattle.history_loss_sector.specs.inside.Entries.{own_in}
use Rattle.history_loss_sector.proofs.filling.last_of.Given as goal

-- none of the later entries is
abbrev pub invariant-loop-left : goal.invariant-loop-left
invariant-loop-left l = record {
  few : l.left ≤ length l.own;
  none : list_any (is_for l.number) (own_in (drop l.left l.own)) ≡ false;
}

abbrev pub decreases-loop-left : goal.decreases-loop-left
decreases-loop-left l = l.left
