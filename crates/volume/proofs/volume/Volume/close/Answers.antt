use Rattle.volume.proofs.Common.{◌≡◌, ◌+◌, refl, sym, subst, ap, ◌∙◌, ManagerView, IsReady, VolumeView, content_of, handle_count}
use Rattle.volume.proofs.Closing.{IsSilent, one_closed, ready_still, same_content, silent_close}
use Rattle.volume.proofs.Untraced.{read_stepped, untraced}
use Rattle.volume.proofs.volume.Volume.close.Goals as goal

pub returns-clause-ready : goal.returns-clause-ready
returns-clause-ready g c =
    let silent : IsSilent (untraced c.self.inside.stack) c.step.ensures.steps.stepped = silent_close _ c.self.invariant.ready _ c.step.result c.step.ensures.steps.stepped c.step.ensures.steps.right in
    subst IsReady (sym c.step.ensures.steps.after) (ready_still c.self.inside.stack c.self.invariant.ready c.step.ensures.steps.stepped silent.told silent.by (read_stepped _ _ _ _ c.step.ensures.steps c.step.ensures.between) silent.own silent.device)

pub returns-clause-same : goal.returns-clause-same
returns-clause-same g c =
    let silent : IsSilent (untraced c.self.inside.stack) c.step.ensures.steps.stepped = silent_close _ c.self.invariant.ready _ c.step.result c.step.ensures.steps.stepped c.step.ensures.steps.right in
    ap (λ (v : ManagerView). content_of v c.args.self.partition) c.step.ensures.steps.after
    ∙ same_content c.self.inside.stack c.self.invariant.ready c.step.ensures.steps.stepped silent.told silent.by (read_stepped _ _ _ _ c.step.ensures.steps c.step.ensures.between) silent.own silent.device c.args.self.partition
    ∙ subst (λ (w : VolumeView). content_of c.self.inside.stack w.partition ≡ w.content) c.self.view_is refl

pub returns-clause-closed : goal.returns-clause-closed
returns-clause-closed g c =
    ap (λ (v : ManagerView). handle_count v + 1) c.step.ensures.steps.after
    ∙ one_closed c.self.inside.stack c.self.inside.handle c.self.inside.partition c.step.result c.step.ensures.steps.stepped c.self.invariant.is_open c.step.ensures.steps.right
    ∙ subst (λ (w : VolumeView). handle_count c.self.inside.stack ≡ w.open_handles) c.self.view_is refl
