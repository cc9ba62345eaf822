use Rattle.class_disk.proofs.Common.{◌≡◌, ◌++◌, List, length, Ticket, AllOut}
use Rattle.std.specs.Prelude.{All}
use Rattle.class_disk.specs.inside.Parts.{IsHere, tickets_of}
use Rattle.class_disk.proofs.Extension.free_parts.Given as goal

-- the rooms of the parts that are left are still out
abbrev pub invariant-loop-part : goal.invariant-loop-part
invariant-loop-part g l = record {
  rooms : (others : List Ticket) → AllOut (g.D.Shown.view l.initial.self.device) (tickets_of l.initial.parts.items ++ others)
      → AllOut (g.D.Shown.view l.self.device) (tickets_of l.parts.items ++ others);
  here : All IsHere l.parts.items;
  table : l.self.table ≡ l.initial.self.table;
  same : g.D.Shown.view l.self.device ≡ record (g.D.Shown.view l.initial.self.device) { rooms = (g.D.Shown.view l.self.device).rooms };
}

abbrev pub decreases-loop-part : goal.decreases-loop-part
decreases-loop-part g l = length l.parts.items
