use Rattle.serving.proofs.Common.{FiledView, ap, refl}
use Rattle.read_ahead.specs.Standing.{behind}
use Rattle.serving.proofs.Whole.{first_desk}
use Rattle.serving.proofs.beside.busy_over.Goals as goal

pub returns-clause-first : goal.returns-clause-first
returns-clause-first g c =
    first_desk c.args.threaded.filed _ (behind 0 g.J.Naming.given) c.in_ok-engine.ensures.stack c.in_ok-engine.ensures.disk c.in_ok-engine.ensures.aloft c.in_ok-engine.ensures.not_full
    (ap (λ (f : FiledView). f.handle) c.filed.view_is) (ap (λ (f : FiledView). f.sizes) c.filed.view_is) refl c.in_ok-slots.ensures.free refl refl refl
