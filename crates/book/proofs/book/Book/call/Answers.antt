use Rattle.std.proofs.Common.{refl}
use Rattle.book.proofs.book.Book.call.Goals as goal

pub returns-in_default : goal.returns-in_default
returns-in_default g c = record {
  count = 0;
  booked = c.args.self.now;
  books = refl;
  served = c.call_alone.ensures.served;
  counted = c.call_alone.ensures.counted;
  taken = c.call_alone.ensures.taken;
}
