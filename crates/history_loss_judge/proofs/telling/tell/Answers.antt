use Rattle.std.proofs.Common.{◌∙◌, ap, refl, subst}
use Rattle.history_fitting.specs.Services.{rules_of}
use Rattle.register.specs.Values.{code}
use Rattle.history_loss_kept.specs.Kept.{own_after_answer}
use Rattle.history_loss_sights.specs.Sights.{success_bytes}
use Rattle.machine.specs.declared.Label.TheVariants.{Answer}
use Rattle.history_loss_judge.specs.inside.Telling.{IsToldOf}
use Rattle.history_loss_judge.proofs.Labels.{answered_is, on_both}
use Rattle.history_loss_judge.proofs.telling.tell.Goals as goal

pub returns-in-Answer : goal.returns-in-Answer
returns-in-Answer c = λ i shared told.
    let rules = rules_of c.args.service.now in
    let seen = c.args.seen.now in
    let n = c.in-Answer.number in
    let status = c.in-Answer.status in
    let told' : IsToldOf rules i c.args.place shared seen.own c.args.told.behind c.args.told.is_sync (Answer n status c.in-Answer.information c.in-Answer.bytes) =
    subst (IsToldOf rules i c.args.place shared seen.own c.args.told.behind c.args.told.is_sync) c.in-Answer.is told in
    on_both c.answer.result
    (λ others own. answered_is rules i c.args.place c.args.told.behind c.args.told.is_sync shared n status c.in-Answer.information c.in-Answer.bytes c.args.told.label.now seen c.answer.new.self c.in-Answer.is others
    (own ∙ ap (λ b. own_after_answer code rules n shared status b seen.own) (c.success_bytes.ensures ∙ ap (success_bytes status) c.as_slice.ensures)))
    c.answer.ensures.others (c.answer.ensures.own rules shared refl told'.0 told'.1 told'.2)
