use Rattle.port.specs.inside.TableView.{books_of}
use Rattle.port.proofs.Handing.{hands_up_none, hands_up, moved_few}
use Rattle.port.proofs.Sound.{ended_taken, sound_left}
use Rattle.port.proofs.Seeing.{shown_is}
use Rattle.port.proofs.layer.PortDevice.take_done.Goals as goal

pub take_done-requires : goal.take_done-requires
take_done-requires g c = ended_taken _ _ _ c.self.invariant.kept

pub returns-in_default : goal.returns-in_default
returns-in_default g c = rw (← shown_is c.self.view_is) (record { hands_up = hands_up_none _ _ _ _ c.self.invariant c.in_default.ensures })

pub information-information-requires : goal.information-information-requires
information-information-requires g c = moved_few _ _ _ _ _ c.self.invariant c.in-Some.ensures

pub invariant_of-self-2 : goal.invariant_of-self-2
invariant_of-self-2 g c = sound_left (books_of c.self.inside.parts.queues) _ (g.A.Adapter.view c.self.inside.parts.adapter) _ c.in-Some.ensures c.self.invariant

pub returns : goal.returns
returns g c = rw (← shown_is c.self.view_is) (record {
  hands_up = hands_up _ _ _ _ c.in-Some.field-0 _ _ _ c.self.invariant c.in-Some.ensures c.status-status.ensures c.information-information.ensures c.complete.ensures.climbs c.complete.ensures.cancel_routine;
})
