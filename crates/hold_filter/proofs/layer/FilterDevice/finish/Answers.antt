use Rattle.hold_filter.proofs.Passing.{finishes}
use Rattle.hold_filter.proofs.layer.FilterDevice.finish.Goals as goal

pub invariant_of-self : goal.invariant_of-self
invariant_of-self g c =
    record {
      buffers = c.self.invariant.buffers;
      in_hand =
          (finishes _ _ _ _ c.self.invariant.in_hand c.shows_order.ensures.order c.args.tag c.finish-finished.result
          c.finish-finished.ensures.finishes).0;
    }

pub returns : goal.returns
returns g c = rw (← c.self.view_is)
    (record {
      finishes =
          (finishes _ _ _ _ c.self.invariant.in_hand c.shows_order.ensures.order c.args.tag c.finish-finished.result
          c.finish-finished.ensures.finishes).1;
    })
