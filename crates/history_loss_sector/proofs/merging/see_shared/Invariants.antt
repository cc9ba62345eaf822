use Rattle.std.proofs.Common.{◌≡◌, ◌++◌, drop}
use Rattle.history_loss_kept.specs.Kept.{all_shared}
use Rattle.history_loss_sector.specs.Seen.{shared_in}
use Rattle.history_loss_sector.proofs.merging.see_shared.Given as goal

-- those so far were seen
abbrev pub invariant-loop-one : goal.invariant-loop-one
invariant-loop-one l = record {
  start : l.watched.seen.start ≡ l.fn.watched.seen.start;
  seen : l.watched.seen.sights ++ all_shared l.all (shared_in (drop l.one-index l.shared)) ≡ l.fn.watched.seen.sights ++ all_shared l.all (shared_in l.shared);
}
