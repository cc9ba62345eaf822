use Rattle.std.proofs.Common.{◌∙◌}
use Rattle.book.proofs.Booked.{booked_more}
use Rattle.book.proofs.booking.book_all.Goals as goal

pub loop-tag-preserved : goal.loop-tag-preserved
loop-tag-preserved g c = record {
  kept = c.book_next.ensures.kept;
  books = booked_more _ _ _ _ _ c.loop-tag.invariant.books c.in-Some.ensures.books;
  journal = c.book_next.ensures.journal ∙ c.loop-tag.invariant.journal;
}
