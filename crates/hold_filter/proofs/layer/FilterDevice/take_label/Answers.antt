use Rattle.hold_filter.proofs.Passing.{takes}
use Rattle.hold_filter.proofs.layer.FilterDevice.take_label.Goals as goal

pub invariant_of-self : goal.invariant_of-self
invariant_of-self g c =
    record {
      buffers = c.self.invariant.buffers;
      in_hand =
          (takes _ _ _ _ c.self.invariant.in_hand c.shows_order.ensures.order c.take_label-label.result
          c.take_label-label.ensures.takes).0;
    }

pub returns : goal.returns
returns g c = rw (← c.self.view_is)
    (record {
      takes = (takes _ _ _ _ c.self.invariant.in_hand c.shows_order.ensures.order c.take_label-label.result
          c.take_label-label.ensures.takes).1;
    })
