use Rattle.class_disk.proofs.layer.DiskDevice.armed.Goals as goal

pub returns : goal.returns
returns g c = rw (← c.self.view_is) c.armed.ensures
