use Rattle.serving.proofs.Common.{sym, subst, ManagerView, quiet}
use Rattle.serving.specs.Elsewhere.{Acts}
use Rattle.serving.proofs.Quiet.{quiet_after, quiet_fits}
use Rattle.serving.proofs.Siding.{act_comes}
use Rattle.serving.proofs.elsewhere.acts.Goals as goal

pub returns-clause-acts : goal.returns-clause-acts
returns-clause-acts c =
    subst (λ (v : ManagerView). Acts (quiet c.args.stack.now) c.args.tag v) (sym (quiet_after _ _ _ _ c.step_untraced.ensures.untraced))
    (act_comes c.laws_of_entries.ensures.idle c.laws_of_entries.ensures.booked c.laws_of_entries.ensures.armed c.laws_of_entries.ensures.tells c.laws_of_entries.ensures.silent c.laws_of_entries.ensures.asks c.laws_of_entries.ensures.apart (quiet c.args.stack.now) _ c.args.tag _
    c.shows_whole.ensures.in_order (quiet_fits c.args.stack.now c.shows_whole.ensures.whole) c.shows_whole.ensures.reached c.step_untraced.ensures.untraced.right)
