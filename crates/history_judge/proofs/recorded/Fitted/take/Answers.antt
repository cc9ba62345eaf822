use Rattle.std.proofs.Common.{◌∙◌, ◌∷◌, ◌++◌, [], ap, subst}
use Rattle.history_fitting.specs.Services.{rules_of}
use Rattle.history_fitting.specs.Opened.{Takes}
use Rattle.history_judge.proofs.Stopping.{whole_push}
use Rattle.history_judge.proofs.recorded.Fitted.take.Goals as goal

pub returns-clause-whole : goal.returns-clause-whole
returns-clause-whole c =
    let f = c.args.self.now in
    let label = c.args.label.now in
    whole_push f c.args.gap label c.requires.whole c.requires.fits _ c.visit.ensures.basis (c.with_label-self.ensures ∙ ap (λ ls. ls ++ label ∷ []) c.visit.ensures.labels)
    (c.with_gap-self.ensures ∙ ap (λ gs. gs ++ c.args.gap ∷ []) c.visit.ensures.gaps)
    (subst (λ k. Takes (rules_of f.basis.service) k label c.take.new.self) c.visit.ensures.known
    (subst (λ b. Takes (rules_of b.service) c.visit.new.self.known label c.take.new.self) c.visit.ensures.basis c.in_ok-take.ensures)) c.in_ok-visit.ensures.cells
