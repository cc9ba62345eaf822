-- One more entry is booked.
use Rattle.book.proofs.Common.{ℕ, suc, Option, Some, None, refl, BookView, BooksOne, HasBooked}

pub booked_none : (old : BookView) → (count : ℕ) × HasBooked None count old old
booked_none old = (0, record { books = refl; ends = tt })

pub booked_more : (last : Option ℕ) (tag : ℕ) (old mid new : BookView) → (count : ℕ) × HasBooked last count old mid → BooksOne tag mid new → (count : ℕ) × HasBooked (Some tag) count old new
booked_more last tag old mid new before one = (suc before.0, record { books = (mid, before.1.books, (tag, one)); ends = (mid, before.1.books, one) })
