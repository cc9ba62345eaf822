use Rattle.hold_filter.proofs.layer.FilterDevice.armed.Goals as goal

pub returns : goal.returns
returns g c = rw (← c.self.view_is) c.armed.ensures
