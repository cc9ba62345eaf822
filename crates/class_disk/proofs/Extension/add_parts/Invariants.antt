use Rattle.class_disk.proofs.Common.{◌≡◌, ◌≢◌, ◌≤◌, ReservesNear, Write, part_count_of, AreNewParts, MakesParts}
use Rattle.std.specs.Prelude.{vec_capacity}
use Rattle.class_disk.proofs.Extension.add_parts.Given as goal

-- this many parts were made, and their rooms are out
abbrev pub invariant-loop-k : goal.invariant-loop-k
invariant-loop-k g l = record {
  table : l.self.table ≡ record l.initial.self.table { owners = l.self.table.owners };
  unless_write : l.request.kind ≢ Write → (g.D.Shown.view l.self.device).adapter ≡ (g.D.Shown.view l.initial.self.device).adapter;
  near : ReservesNear (g.D.Shown.view l.initial.self.device) l.request (g.D.Shown.view l.self.device);
  count : l.count ≡ part_count_of l.initial.self.table.sizes.max_transfer l.request;
  parts : AreNewParts l.initial.self.table.sizes l.request l.k l.parts.items;
  places : l.count ≤ vec_capacity l.parts;
  makes : MakesParts (g.D.Shown.view l.initial.self.device) l.initial.self.table.owners.items l.slot 0 l.parts.items
      (g.D.Shown.view l.self.device) l.self.table.owners.items;
}
