use Rattle.book.proofs.Common.{◌≡◌, ℕ, ◌-◌, length, HasBooked, IsKept, book_of}
use Rattle.book.proofs.booking.book_all.Given as goal

abbrev pub invariant-loop-tag : goal.invariant-loop-tag
invariant-loop-tag g l = record {
  kept : IsKept g.N.TraceNaming.rules g.N.TraceNaming.start l.traced l.taken l.tags;
  books : (count : ℕ) × HasBooked l.last count (book_of l.initial.traced l.initial.taken) (book_of l.traced l.taken);
  journal : l.journal ≡ l.initial.journal;
}

abbrev pub decreases-loop-tag : goal.decreases-loop-tag
decreases-loop-tag g l = length l.journal.entered - length l.taken
