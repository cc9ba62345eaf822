use Rattle.miniport.proofs.BookingApart.{can_fit}
use Rattle.miniport.proofs.memory.book_on.Goals as goal

pub book-requires-clause-fits : goal.book-requires-clause-fits
book-requires-clause-fits c = can_fit c.args.sizes.now c.args.table.now c.args.tag c.args.piece c.args.what c.if-not-is_bookable.ensures

pub returns : goal.returns
returns c = record { can = c.if-not-is_bookable.ensures; after = c.book.ensures c.if-not-is_bookable.ensures.on c.if-not-is_bookable.ensures.there c.if-not-is_bookable.ensures.untouched }
