use Rattle.serving.proofs.Common.{◌≡◌, None, ap, subst, ◌∙◌}
use Rattle.serving.specs.inside.Busy.{Steps}
use Rattle.serving.specs.inside.Engines.{EngineView}
use Rattle.serving.specs.inside.Since.{BusyView}
use Rattle.serving.proofs.Since.{same_engine, steps_from, takes_steps}
use Rattle.serving.proofs.busy.Busy.hears.Goals as goal

pub returns-in-Some : goal.returns-in-Some
returns-in-Some g c =
    let old : BusyView = record { engine = c.self.inside.engine; handle = c.self.inside.handle; sizes = c.self.inside.door.sizes; slots = c.self.inside.slots.items; ready = c.self.inside.ready; read = c.self.inside.read; spoiled = c.self.inside.spoiled; left = c.self.inside.door.left } in
    let calm : old.ready ≡ None = ap (λ (b : BusyView). b.ready) c.self.view_is ∙ c.requires in
    subst (λ (b : BusyView). Steps b c.hear.result c.hear.new.self) c.self.view_is
    (takes_steps old c.take_answer.new.self c.in-Some.answer c.hear.result c.hear.new.self calm c.in-Some.ensures.takes.0 c.in-Some.ensures.takes.1 c.in-Some.ensures.same c.hear.ensures)

pub returns-in-None : goal.returns-in-None
returns-in-None g c =
    let old : BusyView = record { engine = c.self.inside.engine; handle = c.self.inside.handle; sizes = c.self.inside.door.sizes; slots = c.self.inside.slots.items; ready = c.self.inside.ready; read = c.self.inside.read; spoiled = c.self.inside.spoiled; left = c.self.inside.door.left } in
    let same : c.take_answer.new.self ≡ c.self.inside.engine = same_engine c.self.inside.engine c.take_answer.new.self c.in-None.ensures.same c.in-None.ensures.takes.1 in
    subst (λ (b : BusyView). Steps b c.goes_on.result c.goes_on.new.self) c.self.view_is
    (steps_from old (record old { engine = c.take_answer.new.self }) c.goes_on.new.self c.goes_on.result (ap (λ (e : EngineView). record old { engine = e }) same) c.goes_on.ensures)
