use Rattle.script.proofs.Asked.{through_found}
use Rattle.script.proofs.orders.through.Goals as goal

pub returns-in-Some-through : goal.returns-in-Some-through
returns-in-Some-through c =
    through_found c.args.words c.word.new.self c.in-Some-through.field-0.now c.is_at_end.result c.then_some.result c.in-Some-through.ensures.first c.in-Some-through.is-through c.word.ensures.rest
    c.then_some.ensures c.is_at_end.ensures
