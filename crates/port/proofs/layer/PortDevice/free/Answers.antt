use Rattle.port.specs.inside.TableView.{books_of}
use Rattle.port.proofs.Sound.{slot_at, sound_freed, frees_shown}
use Rattle.port.proofs.Seeing.{shown_is}
use Rattle.port.proofs.layer.PortDevice.free.Goals as goal

pub remove_place-requires : goal.remove_place-requires
remove_place-requires g c = (_, slot_at (books_of c.self.inside.parts.queues) (g.A.Adapter.view c.self.inside.parts.adapter) _ (shown_is c.self.view_is) c.args.room.spot c.requires.reserved.0 c.requires.reserved.1)

pub invariant_of-self : goal.invariant_of-self
invariant_of-self g c = sound_freed (books_of c.self.inside.parts.queues) _ (g.A.Adapter.view c.self.inside.parts.adapter) c.args.room.spot c.remove_place.ensures c.self.invariant

pub returns : goal.returns
returns g c = rw (← shown_is c.self.view_is) (record { frees = frees_shown (books_of c.self.inside.parts.queues) _ (g.A.Adapter.view c.self.inside.parts.adapter) c.args.room.spot c.remove_place.ensures })
