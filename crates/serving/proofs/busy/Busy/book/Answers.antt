use Rattle.serving.proofs.Common.{None, subst, sym}
use Rattle.serving.specs.inside.Busy.{IsCalm, Steps}
use Rattle.serving.specs.inside.Since.{BusyView}
use Rattle.serving.proofs.Since.{engine_steps}
use Rattle.serving.proofs.busy.Busy.book.Goals as goal

pub returns : goal.returns
returns g c =
    let old : BusyView = record { engine = c.self.inside.engine; handle = c.self.inside.handle; sizes = c.self.inside.door.sizes; slots = c.self.inside.slots.items; ready = c.self.inside.ready; read = c.self.inside.read; spoiled = c.self.inside.spoiled; left = c.self.inside.door.left } in
    let calm : IsCalm old = subst IsCalm (sym c.self.view_is) c.requires in
    subst (λ (b : BusyView). Steps b None c.spoil.new.self) c.self.view_is
    (subst (λ (n : BusyView). Steps old None n) (sym c.spoil.ensures) (engine_steps old c.book-failed.new.self c.book-failed.result calm c.book-failed.ensures))
