use Rattle.volume.proofs.Common.{◌∙◌, refl, ap, arith, not}
use Rattle.volume.proofs.Steps.{Quietly-refl, Quietly-trans}
use Rattle.volume.proofs.Calling.{goes_further, none_yet}
use Rattle.volume.proofs.Ending.{some_out}
use Rattle.volume.proofs.Going.{looks_by, found_fewer, turned_fewer}
use Rattle.volume.proofs.carrying.go_on.Goals as goal

pub moving-init : goal.moving-init
moving-init g c = record {
  looks = record { looked = c.args.stack.now; quietly = Quietly-refl c.args.stack.now; between = c.requires.between; takes = (c.requires.none, refl) };
  no_more = omega arith;
}

pub finish_one-requires : goal.finish_one-requires
finish_one-requires g c =
    let h = none_yet _ _ _ c.moving.invariant.looks (c.is_none.ensures ∙ ap not c.moving-test.true) in
    record {
      between = h.1;
      some_out =
          some_out c.requires.goes.0 c.requires.goes.3 c.requires.goes.1 c.requires.goes.2 c.moving.stack
          (goes_further c.requires.goes.0 c.requires.goes.1 c.requires.goes.2 c.args.stack.now c.moving.stack c.requires.goes.4 h.0) h.1 h.2;
    }

pub moving-preserved : goal.moving-preserved
moving-preserved g c =
    let h = none_yet _ _ _ c.moving.invariant.looks (c.is_none.ensures ∙ ap not c.moving-test.true) in
    record {
      looks = looks_by c.args.stack.now c.moving.stack c.finish_one.new.stack _ _ h.0 c.finish_one.ensures.quietly c.finish_one.ensures.between c.take_answer-answer.ensures;
      no_more = omega (arith, c.moving.invariant.no_more, c.finish_one.ensures.no_more);
    }

pub returns-then-finish_one-clause-looks : goal.returns-then-finish_one-clause-looks
returns-then-finish_one-clause-looks g c =
    let h = none_yet _ _ _ c.moving.invariant.looks (c.is_none.ensures ∙ ap not c.moving-test.true) in
    looks_by c.args.stack.now c.moving.stack c.finish_one.new.stack _ _ h.0 c.finish_one.ensures.quietly c.finish_one.ensures.between c.take_answer.ensures

pub returns-then-finish_one-clause-fewer : goal.returns-then-finish_one-clause-fewer
returns-then-finish_one-clause-fewer g c = turned_fewer _ c.args.slowing.now.rules.items c.moving.slowing.rules.items c.finish_one.new.slowing.rules.items c.moving.invariant.no_more c.if-finish_one.ensures.less

pub returns-clause-fewer : goal.returns-clause-fewer
returns-clause-fewer g c = found_fewer c.moving.answer c.args.slowing.now.rules.items c.moving.slowing.rules.items (c.is_none.ensures ∙ ap not c.moving-test.false)
