use Rattle.std.proofs.Common.{arith}
use Rattle.port.specs.inside.TableView.{books_of}
use Rattle.port.specs.Shown.{reserved_of}
use Rattle.port.proofs.Draining.{hand_drained, drains_all}
use Rattle.port.proofs.Sound.{sound_on}
use Rattle.port.proofs.Seeing.{shown_is}
use Rattle.port.proofs.layer.PortDevice.drain.Goals as goal

pub drain-requires : goal.drain-requires
drain-requires g c =
    let k = c.self.invariant.kept.places in omega arith

pub invariant_of-self : goal.invariant_of-self
invariant_of-self g c =
    sound_on (books_of c.self.inside.parts.queues) (books_of c.drain.new.self) (g.A.Adapter.view c.self.inside.parts.adapter) (g.A.Adapter.view c.self.inside.parts.adapter) (drains_all (books_of c.self.inside.parts.queues) (books_of c.drain.new.self) (g.A.Adapter.view c.self.inside.parts.adapter) c.drain.ensures).beside.same_rooms (hand_drained _ _ _ (reserved_of (books_of c.self.inside.parts.queues).rooms) c.drain.ensures c.self.invariant)

pub returns : goal.returns
returns g c =
    rw (← shown_is c.self.view_is) (record { drains = drains_all (books_of c.self.inside.parts.queues) (books_of c.drain.new.self) (g.A.Adapter.view c.self.inside.parts.adapter) c.drain.ensures })
