use Rattle.serving.proofs.Common.{◌≡◌, Bool, true, false}
use Rattle.serving.proofs.Quiet.{quiet_after}
use Rattle.serving.proofs.pens.SilentPen.step.Goals as goal

pub returns-clause-told : goal.returns-clause-told
returns-clause-told c = record {
  stepped = c.step_untraced.ensures.untraced.stepped;
  right = c.step_untraced.ensures.untraced.right;
  after = quiet_after _ _ _ _ c.step_untraced.ensures.untraced;
  wrote = λ _ whole. absurd (let e : ◌≡◌ {A = Bool} false true = whole in cc);
}
