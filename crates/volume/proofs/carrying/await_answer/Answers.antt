use Rattle.volume.proofs.Common.{Option, ◌∙◌, ap, subst, not, TakesAnswer}
use Rattle.io_manager.specs.declared.Answer.{Answer as AnswerOf}
use Rattle.volume.proofs.Steps.{Quietly-refl}
use Rattle.volume.proofs.Calling.{goes_further, none_yet}
use Rattle.volume.proofs.Ending.{ends}
use Rattle.volume.proofs.Going.{looks_fewer, looks_further}
use Rattle.volume.proofs.carrying.await_answer.Goals as goal

pub waiting-init : goal.waiting-init
waiting-init g c = record { looked = c.args.stack.now; quietly = Quietly-refl c.args.stack.now; between = c.requires.between; takes = c.take_answer-answer.ensures }

pub go_on-answer-requires : goal.go_on-answer-requires
go_on-answer-requires g c =
    let h = none_yet _ _ _ c.waiting.invariant (c.is_none.ensures ∙ ap not c.waiting-test.true) in
    record {
      between = h.1;
      goes = (
        c.requires.goes.0,
        c.requires.goes.1,
        c.requires.goes.2,
        c.requires.goes.3,
        goes_further c.requires.goes.0 c.requires.goes.1 c.requires.goes.2 c.args.stack.now c.waiting.stack c.requires.goes.4 h.0,
      );
      none = h.2;
    }

pub waiting-preserved : goal.waiting-preserved
waiting-preserved g c =
    let h = none_yet _ _ _ c.waiting.invariant (c.is_none.ensures ∙ ap not c.waiting-test.true) in
    looks_further c.args.stack.now c.waiting.stack c.go_on-answer.result c.go_on-answer.new.stack h.0 c.go_on-answer.ensures.looks

pub waiting-smaller : goal.waiting-smaller
waiting-smaller g c = looks_fewer c.waiting.answer c.go_on-answer.result c.waiting.slowing.rules.items c.go_on-answer.new.slowing.rules.items (c.is_none.ensures ∙ ap not c.waiting-test.true) c.go_on-answer.ensures.fewer

pub returns : goal.returns
returns g c = λ before number q ready goes.
    ends c.laws_of_a_request.ensures.reads c.laws_of_a_request.ensures.writes c.laws_of_a_request.ensures.failed c.laws_of_a_request.ensures.keeps c.laws_of_a_request.ensures.counts
    before ready number q c.waiting.invariant.looked
    (goes_further before number q c.args.stack.now c.waiting.invariant.looked goes c.waiting.invariant.quietly) c.waiting.invariant.between
    c.in-Some.answer c.waiting.stack
    (subst (λ (o : Option AnswerOf). TakesAnswer c.waiting.invariant.looked o c.waiting.stack) c.in-Some.is c.waiting.invariant.takes)
