use Rattle.hold_filter.proofs.Passing.{acts}
use Rattle.hold_filter.proofs.layer.FilterDevice.act.Goals as goal

pub invariant_of-self : goal.invariant_of-self
invariant_of-self g c =
    record {
      buffers = c.self.invariant.buffers;
      in_hand =
          (acts _ _ _ _ c.self.invariant.in_hand c.shows_order.ensures.order c.args.tag c.act-acted.result
          c.act-acted.ensures.acts).0;
    }

pub returns : goal.returns
returns g c = rw (← c.self.view_is)
    (record {
      acts = (acts _ _ _ _ c.self.invariant.in_hand c.shows_order.ensures.order c.args.tag c.act-acted.result
          c.act-acted.ensures.acts).1;
    })
