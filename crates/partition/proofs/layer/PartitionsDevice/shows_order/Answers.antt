use Rattle.partition.proofs.layer.PartitionsDevice.shows_order.Goals as goal

pub returns : goal.returns
returns g c = rw (← c.self.view_is) (record { order = c.self.invariant.orderly })
