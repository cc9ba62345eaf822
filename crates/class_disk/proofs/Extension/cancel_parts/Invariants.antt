use Rattle.class_disk.proofs.Common.{◌≡◌, books_of}
use Rattle.class_disk.proofs.Parting.{CancelsSoFar}
use Rattle.class_disk.proofs.Extension.cancel_parts.Given as goal

abbrev pub invariant-loop-part : goal.invariant-loop-part
invariant-loop-part g l = record {
  table : l.self.table ≡ l.initial.self.table;
  so_far : CancelsSoFar (g.D.Shown.view l.initial.self.device) (books_of l.initial.self.table) l.slot l.part (g.D.Shown.view l.self.device);
}
