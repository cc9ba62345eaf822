use Rattle.hold_filter.proofs.layer.FilterDevice.shows_order.Goals as goal

pub returns : goal.returns
returns g c = rw (← c.self.view_is) (record { order = c.self.invariant.in_hand.orderly })
