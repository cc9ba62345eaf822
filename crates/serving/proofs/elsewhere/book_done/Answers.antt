use Rattle.std.proofs.Common.{rules}
use Rattle.serving.proofs.Booking.{booked_by_copy}
use Rattle.serving.proofs.elsewhere.book_done.Goals as goal

pub returns : goal.returns
returns g c =
    booked_by_copy c.copies_do_the_same.ensures.transfer c.copies_do_the_same.ensures.suit c.copies_do_the_same.ensures.send c.args.stack.now c.book_moved.new.stack c.args.done _ _ c.shows_whole.ensures.in_order
    _ _ _ c.in-Some.ensures (search rules) (search rules) c.into_parts-ask.ensures.ask c.into_parts-ask.ensures.what c.into_parts-ask.ensures.moved c.book_moved.ensures c.is_err-failed.ensures.value
