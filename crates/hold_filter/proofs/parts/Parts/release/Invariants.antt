use Rattle.hold_filter.proofs.Common.{length, books_of, view_of, FilterKept, Releases, Spares}
use Rattle.hold_filter.proofs.parts.Parts.release.Given as goal

abbrev pub invariant-loop : goal.invariant-loop
invariant-loop g l = record {
  kept : FilterKept g.D.Shown.stack_size (g.D.Shown.view l.self.device) (books_of l.self.table);
  spares : Spares (g.D.Shown.view l.initial.self.device) (books_of l.initial.self.table)
      (g.D.Shown.view l.self.device)
      (books_of l.self.table);
  releases : Releases (view_of (g.D.Shown.view l.initial.self.device) (books_of l.initial.self.table))
      (view_of (g.D.Shown.view l.self.device) (books_of l.self.table));
}

abbrev pub decreases-loop : goal.decreases-loop
decreases-loop g l = length (books_of l.self.table).held
