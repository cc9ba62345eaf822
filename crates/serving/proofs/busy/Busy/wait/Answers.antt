use Rattle.serving.proofs.Common.{Sizes, Some, ap, subst, sym}
use Rattle.nbd.specs.declared.beside.Happening.TheVariants.{Read as IsRead}
use Rattle.serving.specs.inside.Busy.{IsCalm, IsFreePlace, Steps}
use Rattle.serving.specs.inside.Doors.{DoorView, TakesOne}
use Rattle.serving.specs.inside.Since.{BusyView}
use Rattle.serving.proofs.Since.{reads_steps}
use Rattle.serving.proofs.busy.Busy.wait.Goals as goal

pub returns-in-Request : goal.returns-in-Request
returns-in-Request g c =
    let old : BusyView = record { engine = c.self.inside.engine; handle = c.self.inside.handle; sizes = c.self.inside.door.sizes; slots = c.self.inside.slots.items; ready = c.self.inside.ready; read = c.self.inside.read; spoiled = c.self.inside.spoiled; left = c.self.inside.door.left } in
    let mid : BusyView = record old { sizes = c.wait.new.self.sizes; left = c.wait.new.self.left } in
    let calm : IsCalm old = subst IsCalm (sym c.self.view_is) c.requires in
    let free : IsFreePlace old c.in-Some.at = subst (λ (b : BusyView). IsFreePlace b c.in-Some.at) (sym c.self.view_is) c.in-Some.ensures in
    let taken : TakesOne c.self.inside.door c.in-Request.incoming c.wait.new.self = subst (λ (d : DoorView). TakesOne d c.in-Request.incoming c.wait.new.self) c.lend_on.ensures c.in-Request.ensures in
    subst (λ (b : BusyView). Steps b (Some IsRead) c.call.new.self) c.self.view_is
    (reads_steps old mid c.call.new.self c.in-Some.at c.in-Request.incoming calm (record { free = free.free; few = free.few }) taken.is
    (ap (λ (z : Sizes). record mid { sizes = z }) taken.same_sizes) c.call.ensures)
