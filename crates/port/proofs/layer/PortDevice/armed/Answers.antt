use Rattle.port.proofs.Seeing.{shown_is}
use Rattle.port.proofs.layer.PortDevice.armed.Goals as goal

pub returns : goal.returns
returns g c = rw (← shown_is c.self.view_is) c.armed.ensures.exact
