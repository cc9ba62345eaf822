use Rattle.register_loss_judge.specs.inside.States.{form}
use Rattle.register_loss_judge.proofs.Listing.{form_there}
use Rattle.register_loss_judge.proofs.covering.is_covered.Goals as goal

pub returns-then-does_cover : goal.returns-then-does_cover
returns-then-does_cover c = λ _.
    (form c.state-item.result, form_there c.args.states.now c.loop-state.state-index c.state-item.result c.loop-state-test.true c.state-item.is, c.does_cover.ensures c.if-does_cover.true)
