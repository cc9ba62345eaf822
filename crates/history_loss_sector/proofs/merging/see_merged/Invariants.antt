use Rattle.std.proofs.Common.{◌≡◌, ◌++◌, drop}
use Rattle.history_loss_kept.specs.Kept.{merged}
use Rattle.history_loss_sector.specs.Seen.{shared_in}
use Rattle.history_loss_sector.specs.inside.Entries.{own_in}
use Rattle.history_loss_sector.proofs.merging.see_merged.Given as goal

-- what comes up to those so far was seen
abbrev pub invariant-loop-marked : goal.invariant-loop-marked
invariant-loop-marked l = record {
  start : l.watched.seen.start ≡ l.fn.watched.seen.start;
  seen : l.watched.seen.sights ++ merged l.all l.taken (own_in (drop l.marked-index l.own)) (shared_in l.shared) ≡ l.fn.watched.seen.sights ++ merged l.all 0 (own_in l.own) (shared_in l.shared);
}
