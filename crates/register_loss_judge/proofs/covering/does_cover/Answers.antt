use Rattle.std.proofs.Common.{subst}
use Rattle.std.specs.Prelude.{All}
use Rattle.register_loss_search.specs.Covering.{HasDuty, HasTurn}
use Rattle.register_loss_judge.proofs.Checking.{form_covers}
use Rattle.register_loss_judge.proofs.covering.does_cover.Goals as goal

pub returns : goal.returns
returns c = λ e.
    form_covers c.args.state.now c.args.other.now (c.is_wider.ensures c.if-not-is_wider.false)
    (subst (λ xs. All (λ one. HasDuty c.args.other.now.waits.items one) xs) c.as_slice.ensures.value
    (subst (λ ys. All (λ one. HasDuty ys one) c.as_slice.result.now) c.as_slice-2.ensures.value (c.have_duties.ensures c.if-not-have_duties.false)))
    (subst (λ xs. All (λ other. HasTurn c.args.state.now.waits.items other) xs) c.as_slice-3.ensures.value
    (subst (λ ys. All (λ other. HasTurn ys other) c.as_slice-3.result.now) c.as_slice-4.ensures.value (c.have_turns.ensures e)))
