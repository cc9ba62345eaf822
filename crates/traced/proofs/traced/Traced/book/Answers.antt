use Rattle.traced.proofs.Booking.{sound_booked}
use Rattle.traced.proofs.traced.Traced.book.Goals as goal

pub invariant_of-self : goal.invariant_of-self
invariant_of-self g c = record {
  sound = sound_booked _ _ _ _ _ _ _ _ _ _ _ c.self.invariant.sound c.book.ensures;
  tally = c.self.invariant.tally;
  clients = c.self.invariant.clients;
  same_sizes = c.self.invariant.same_sizes;
  sizes = c.self.invariant.sizes;
}
