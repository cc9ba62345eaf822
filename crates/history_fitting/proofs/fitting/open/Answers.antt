use Rattle.std.proofs.Common.{◌∙◌, ap, sym, subst, refl}
use Rattle.std.specs.Prelude.{Some}
use Rattle.history_fitting.specs.Opened.{bare, PutsCall}
use Rattle.history_fitting.proofs.Opening.{puts_by}
use Rattle.history_fitting.proofs.fitting.open.Goals as goal

pub returns-in_ok-insert-in-None : goal.returns-in_ok-insert-in-None
returns-in_ok-insert-in-None c =
    subst (λ r. PutsCall r c.args.opened.now c.args.number c.args.request.now c.insert.new.self) (sym c.in-None.is)
    (puts_by c.args.opened.now c.insert.new.self c.args.number (Some (bare c.args.request.now)) (c.in_ok-insert-in-None.ensures.updates.1 ∙ ap Some c.bare-request.ensures) c.in_ok-insert-in-None.ensures.updates.2)

pub returns-in-Some : goal.returns-in-Some
returns-in-Some c = subst (λ r. PutsCall r c.args.opened.now c.args.number c.args.request.now c.args.opened.now) (sym c.in-Some.is) refl
