use Rattle.std.proofs.Common.{subst}
use Rattle.std.specs.Prelude.{All}
use Rattle.loss.specs.Held.{IsOneOf}
use Rattle.register_loss_judge.specs.inside.Covering.{Lives}
use Rattle.register_loss_judge.proofs.Checking.{held_wider}
use Rattle.register_loss_judge.proofs.covering.is_wider.Goals as goal

pub returns : goal.returns
returns c = λ e.
    held_wider c.args.values.now c.args.others.now
    (subst (λ xs. All (λ v. IsOneOf v xs) c.args.others.now.current.items) c.as_slice-now.ensures.value
    (subst (λ xs. All (λ v. IsOneOf v c.as_slice-now.result.now) xs) c.as_slice-given.ensures.value (c.gives_all.ensures c.if-not-gives_all.false)))
    (subst (λ xs. All (λ one. Lives one c.args.values.now) xs) c.as_slice-older.ensures.value (c.all_live.ensures e))
