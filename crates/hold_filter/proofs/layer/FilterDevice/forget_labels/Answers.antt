use Rattle.hold_filter.proofs.Passing.{forgets}
use Rattle.hold_filter.proofs.layer.FilterDevice.forget_labels.Goals as goal

pub invariant_of-self : goal.invariant_of-self
invariant_of-self g c =
    record {
      buffers = c.self.invariant.buffers;
      in_hand = (forgets _ _ _ _ c.self.invariant.in_hand c.shows_order.ensures.order c.forget_labels.ensures.forgets).0;
    }

pub returns : goal.returns
returns g c = rw (← c.self.view_is)
    (record { forgets = (forgets _ _ _ _ c.self.invariant.in_hand c.shows_order.ensures.order c.forget_labels.ensures.forgets).1 })
