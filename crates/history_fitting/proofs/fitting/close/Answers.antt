use Rattle.std.proofs.Common.{sym, subst, refl}
use Rattle.history_fitting.specs.Opened.{PutsAnswer}
use Rattle.history_fitting.proofs.fitting.close.Goals as goal

pub returns-in-None : goal.returns-in-None
returns-in-None c = subst (λ o. PutsAnswer o c.args.opened.now c.args.number c.close_open.new.opened) (sym c.in-None.is) c.close_open.ensures

pub returns-in-Some : goal.returns-in-Some
returns-in-Some c = subst (λ o. PutsAnswer o c.args.opened.now c.args.number c.args.opened.now) (sym c.in-Some.is) refl
