use Rattle.serving.proofs.Common.{Sizes, Some, ap, subst, sym}
use Rattle.nbd.specs.declared.beside.Happening.TheVariants.{Read as IsRead}
use Rattle.serving.specs.inside.Busy.{IsCalm, IsFreePlace, Steps}
use Rattle.serving.specs.inside.Since.{BusyView}
use Rattle.serving.proofs.Since.{reads_steps}
use Rattle.serving.proofs.busy.Busy.read_here.Goals as goal

pub returns : goal.returns
returns g c =
    let old : BusyView = record { engine = c.self.inside.engine; handle = c.self.inside.handle; sizes = c.self.inside.door.sizes; slots = c.self.inside.slots.items; ready = c.self.inside.ready; read = c.self.inside.read; spoiled = c.self.inside.spoiled; left = c.self.inside.door.left } in
    let mid : BusyView = record old { sizes = c.read_here.new.self.sizes; left = c.read_here.new.self.left } in
    let calm : IsCalm old = subst IsCalm (sym c.self.view_is) c.requires in
    let free : IsFreePlace old c.in_ok-at.at = subst (λ (b : BusyView). IsFreePlace b c.in_ok-at.at) (sym c.self.view_is) c.in_ok-at.ensures in
    subst (λ (b : BusyView). Steps b (Some IsRead) c.call.new.self) c.self.view_is
    (reads_steps old mid c.call.new.self c.in_ok-at.at c.in_ok-incoming.incoming calm (record { free = free.free; few = free.few }) c.in_ok-incoming.ensures.is
    (ap (λ (z : Sizes). record mid { sizes = z }) c.in_ok-incoming.ensures.same_sizes) c.call.ensures)
