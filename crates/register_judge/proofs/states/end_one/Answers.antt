use Rattle.std.proofs.Common.{◌∙◌, ap}
use Rattle.register_judge.specs.inside.States.{form_of, forms_of, turned}
use Rattle.register_judge.proofs.Adding.{ends_next}
use Rattle.register_judge.proofs.states.end_one.Goals as goal

pub loop-turn-preserved : goal.loop-turn-preserved
loop-turn-preserved c = λ new rest.
    ends_next (form_of c.args.state.now) c.args.turns.now c.loop-turn.turn-index c.turn-item.result c.loop-turn-test.true (forms_of c.args.states.now.items) (forms_of c.loop-turn.states.items) (forms_of c.add.new.states.items) new
    (form_of c.in_ok-next.next) (c.in_ok-next.ensures ∙ ap (λ turn. turned turn (form_of c.args.state.now)) c.turn-item.is) c.loop-turn.invariant c.in_ok-add.ensures rest
