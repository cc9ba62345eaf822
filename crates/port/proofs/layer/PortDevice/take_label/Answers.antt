use Rattle.port.specs.inside.TableView.{books_of}
use Rattle.port.specs.Shown.{reserved_of}
use Rattle.port.proofs.Resetting.{hand_labels}
use Rattle.port.proofs.layer.PortDevice.take_label.Goals as goal

pub invariant_of-self : goal.invariant_of-self
invariant_of-self g c =
    hand_labels (books_of c.self.inside.parts.queues) (g.A.Adapter.view c.self.inside.parts.adapter) (g.A.Adapter.view c.take_label.new.self) (reserved_of (books_of c.self.inside.parts.queues).rooms) c.take_label.result c.take_label.ensures.takes c.take_label.ensures.order c.self.invariant
