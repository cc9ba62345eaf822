use Rattle.port.specs.inside.TableView.{books_of}
use Rattle.port.specs.Shown.{reserved_of}
use Rattle.port.proofs.Resetting.{hand_forgotten}
use Rattle.port.proofs.layer.PortDevice.forget_labels.Goals as goal

pub invariant_of-self : goal.invariant_of-self
invariant_of-self g c =
    hand_forgotten (books_of c.self.inside.parts.queues) (g.A.Adapter.view c.self.inside.parts.adapter) (g.A.Adapter.view c.forget_labels.new.self) (reserved_of (books_of c.self.inside.parts.queues).rooms) c.forget_labels.ensures.forgets c.forget_labels.ensures.order c.self.invariant
