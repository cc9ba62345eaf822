use Rattle.hold_filter.proofs.Passing.{resets}
use Rattle.hold_filter.proofs.layer.FilterDevice.reset.Goals as goal

pub invariant_of-self : goal.invariant_of-self
invariant_of-self g c =
    record {
      buffers = c.self.invariant.buffers;
      in_hand =
          (resets _ _ _ _ c.self.invariant.in_hand c.shows_order.ensures.order c.reset.ensures.resets).0;
    }

pub returns : goal.returns
returns g c = rw (← c.self.view_is)
    (record {
      resets = (resets _ _ _ _ c.self.invariant.in_hand c.shows_order.ensures.order c.reset.ensures.resets).1;
    })
