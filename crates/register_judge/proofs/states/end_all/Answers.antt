use Rattle.std.proofs.Common.{[], refl, sym}
use Rattle.register_judge.specs.inside.States.{forms_of, turns_of}
use Rattle.register_judge.proofs.Adding.{all_next}
use Rattle.register_judge.proofs.states.end_all.Goals as goal

pub loop-state-preserved : goal.loop-state-preserved
loop-state-preserved c = λ new rest.
    all_next c.args.must c.args.number c.args.states.now c.loop-state.state-index c.state-item.result c.state-item.result c.loop-state-test.true (sym c.state-item.is) [] (forms_of c.loop-state.ended.items) (forms_of c.end_of.new.states.items) new
    (turns_of c.args.must c.args.number c.state-item.result.waits.items) refl c.loop-state.invariant c.in_ok-end_of.ensures rest
