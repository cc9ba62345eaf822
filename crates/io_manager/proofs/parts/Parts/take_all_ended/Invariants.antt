use Rattle.std.proofs.Common.{◌≡◌, ◌≤◌, ◌+◌, length}
use Rattle.io_manager.proofs.Common.{slab_len, Gathers, IsSoundWith}
use Rattle.io_manager.proofs.parts.Parts.take_all_ended.Given as goal

abbrev pub invariant-ended : goal.invariant-ended
invariant-ended g l = record {
  limits : l.self.limits ≡ l.initial.self.limits;
  sound : IsSoundWith l.self.tables.answered.items l.self.limits (g.D.Shown.view l.self.device) l.self.tables;
  few : length l.self.tables.answered.items + slab_len l.self.tables.requests ≤ 64;
  gathers : Gathers (g.D.Shown.view l.initial.self.device) l.initial.self.tables (g.D.Shown.view l.self.device) l.self.tables;
}

abbrev pub decreases-ended : goal.decreases-ended
decreases-ended g l = length (g.D.Shown.view l.self.device).packets
