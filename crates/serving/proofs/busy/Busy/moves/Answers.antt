use Rattle.serving.proofs.Common.{None, subst, sym}
use Rattle.serving.specs.inside.Busy.{IsCalm, Steps}
use Rattle.serving.specs.inside.Since.{BusyView}
use Rattle.serving.proofs.Since.{engine_steps, hands_step}
use Rattle.serving.proofs.busy.Busy.moves.Goals as goal

pub returns-in-Some-clause-steps : goal.returns-in-Some-clause-steps
returns-in-Some-clause-steps g c =
    let old : BusyView = record { engine = c.self.inside.engine; handle = c.self.inside.handle; sizes = c.self.inside.door.sizes; slots = c.self.inside.slots.items; ready = c.self.inside.ready; read = c.self.inside.read; spoiled = c.self.inside.spoiled; left = c.self.inside.door.left } in
    let calm : IsCalm old = subst IsCalm (sym c.self.view_is) c.requires in
    subst (λ (b : BusyView). Steps b None c.spoil.new.self) c.self.view_is
    (subst (λ (n : BusyView). Steps old None n) (sym c.spoil.ensures) (engine_steps old c.moves.new.self c.in-Some.failed calm c.in-Some.ensures))

pub returns-in-None-clause-steps : goal.returns-in-None-clause-steps
returns-in-None-clause-steps g c =
    let old : BusyView = record { engine = c.self.inside.engine; handle = c.self.inside.handle; sizes = c.self.inside.door.sizes; slots = c.self.inside.slots.items; ready = c.self.inside.ready; read = c.self.inside.read; spoiled = c.self.inside.spoiled; left = c.self.inside.door.left } in
    let calm : IsCalm old = subst IsCalm (sym c.self.view_is) c.requires in
    subst (λ (b : BusyView). Steps b None (record old { engine = c.moves.new.self })) c.self.view_is (hands_step old c.moves.new.self calm c.in-None.ensures)
