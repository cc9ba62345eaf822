use Rattle.std.proofs.Common.{rules}
use Rattle.traced.proofs.Booking.{sound_first}
use Rattle.traced.proofs.traced.Traced.new.Goals as goal

pub invariant_of-result : goal.invariant_of-result
invariant_of-result g c =
    let made = c.in_ok-log.ensures in
    record {
      sound = sound_first _ _ _ _ _ _ _ c.requires.named c.requires.first made.log.0 made.log.1 made.log.2 _ c.requires.count.1 made.numbers made.owner;
      tally = search rules;
      clients = c.requires.handles;
      same_sizes = c.requires.sizes.0;
      sizes = c.requires.sizes.1;
    }
