use Rattle.std.proofs.Common.{◌≡◌, ◌≤◌, ◌+◌, true, length}
use Rattle.io_manager.proofs.Common.{count_by, is_some, partition_of, CancelsAll}
use Rattle.io_manager.specs.inside.Sound.{IsSound}
use Rattle.io_manager.proofs.Marking.{is_unmarked}
use Rattle.io_manager.proofs.parts.Parts.cancel_all_of.Given as goal

abbrev pub invariant-next : goal.invariant-next
invariant-next g l = record {
  limits : l.self.limits ≡ l.initial.self.limits;
  sound : IsSound l.self.limits (g.D.Shown.view l.self.device) l.self.tables;
  is_open : is_some (partition_of l.self.tables.handles.slots l.handle) ≡ true;
  few : length l.self.tables.labels.items + count_by is_unmarked (g.D.Shown.view l.self.device).state.requests ≤ 64;
  cancels : CancelsAll (g.D.Shown.view l.initial.self.device) l.initial.self.tables l.handle.number (g.D.Shown.view l.self.device) l.self.tables;
}

abbrev pub decreases-next : goal.decreases-next
decreases-next g l = count_by is_unmarked (g.D.Shown.view l.self.device).state.requests
