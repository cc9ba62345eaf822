use Rattle.serving.proofs.Common.{◌≡◌, List, Option, Some, Success, ap, subst, ◌∙◌, slice_get, rules}
use Rattle.serving.specs.declared.dues.Due.{Due}
use Rattle.serving.specs.inside.Busy.{AnswersBy, GoesOnAt}
use Rattle.serving.specs.inside.Since.{BusyView}
use Rattle.serving.proofs.Since.{hears_answer, hears_more}
use Rattle.serving.proofs.busy.Busy.hear.Goals as goal

pub returns-then-has_more : goal.returns-then-has_more
returns-then-has_more g c =
    let there : slice_get c.args.self.now.slots c.in_ok-at.at ≡ Some (Some c.in_ok-at.due) =
    subst (λ (xs : List (Option Due)). slice_get xs c.in_ok-at.at ≡ Some (Some c.in_ok-at.due)) (c.as_slice.ensures.value ∙ ap (λ (b : BusyView). b.slots) c.self.view_is) c.in_ok-at.ensures.0 in
    let success : c.args.answer.status ≡ Success = search rules in
    let goes : GoesOnAt c.args.self.now c.in_ok-at.at c.in_ok-at.due c.go_on.new.self = search rules in
    hears_more c.args.self.now c.in_ok-at.at c.in_ok-at.due c.args.answer c.go_on.new.self c.requires there c.in_ok-at.ensures.1 success goes

pub returns : goal.returns
returns g c =
    let there : slice_get c.args.self.now.slots c.in_ok-at.at ≡ Some (Some c.in_ok-at.due) =
    subst (λ (xs : List (Option Due)). slice_get xs c.in_ok-at.at ≡ Some (Some c.in_ok-at.due)) (c.as_slice.ensures.value ∙ ap (λ (b : BusyView). b.slots) c.self.view_is) c.in_ok-at.ensures.0 in
    let answers : AnswersBy c.args.self.now c.in_ok-at.at c.in_ok-at.due c.args.answer c.answer.result c.answer.new.self = search rules in
    hears_answer c.args.self.now c.in_ok-at.at c.in_ok-at.due c.args.answer c.answer.result c.answer.new.self c.requires there c.in_ok-at.ensures.1 answers
