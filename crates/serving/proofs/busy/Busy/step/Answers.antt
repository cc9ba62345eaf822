use Rattle.serving.proofs.Common.{◌≡◌, None, Option, Some, ap, subst, sym, ◌∙◌, rules}
use Rattle.nbd.specs.declared.beside.Happening.{Happening}
use Rattle.serving.specs.declared.dues.Ready.{Ready}
use Rattle.serving.specs.inside.Busy.{Steps}
use Rattle.serving.specs.inside.Since.{BusyView}
use Rattle.serving.proofs.Since.{tells_steps}
use Rattle.serving.proofs.busy.Busy.step.Goals as goal

pub returns-in-Some : goal.returns-in-Some
returns-in-Some g c =
    let old : BusyView = record { engine = c.self.inside.engine; handle = c.self.inside.handle; sizes = c.self.inside.door.sizes; slots = c.self.inside.slots.items; ready = c.self.inside.ready; read = c.self.inside.read; spoiled = c.self.inside.spoiled; left = c.self.inside.door.left } in
    let is : old.ready ≡ Some c.in-Some.ready = search rules in
    let gone : c.take.new.self ≡ None = search rules in
    let told : c.tells.new.self ≡ record old { ready = None } = c.tells.ensures.same ∙ ap (λ (r : Option Ready). record old { ready = r }) gone in
    subst (λ (b : BusyView). Steps b (Some c.tells.result) c.tells.new.self) c.self.view_is
    (subst (λ (n : BusyView). Steps old (Some c.tells.result) n) (sym told)
    (subst (λ (h : Happening). Steps old (Some h) (record old { ready = None })) (sym c.tells.ensures.said) (tells_steps old c.in-Some.ready is)))
