use Rattle.serving.proofs.Common.{sym, subst, ManagerView, StandsIn, quiet}
use Rattle.serving.specs.Elsewhere.{Returns}
use Rattle.serving.proofs.Quiet.{quiet_after}
use Rattle.serving.proofs.Siding.{finish_returns, finish_stands}
use Rattle.serving.proofs.elsewhere.finishes.Goals as goal

pub returns-clause-back : goal.returns-clause-back
returns-clause-back c =
    subst (λ (v : ManagerView). Returns (quiet c.args.stack.now) v) (sym (quiet_after _ _ _ _ c.step_untraced.ensures.untraced))
    (finish_returns c.laws_of_entries.ensures.kept c.laws_of_entries.ensures.apart _ _ c.args.tag _ c.step_untraced.ensures.untraced.right)

pub returns-clause-stands : goal.returns-clause-stands
returns-clause-stands c = λ disk s.
    subst (λ (v : ManagerView). StandsIn v disk) (sym (quiet_after _ _ _ _ c.step_untraced.ensures.untraced))
    (finish_stands c.laws_of_entries.ensures.kept c.laws_of_entries.ensures.apart _ _ c.args.tag _ c.step_untraced.ensures.untraced.right disk s)
