use Rattle.std.proofs.Common.{List, [], drop}
use Rattle.register_judge.specs.inside.States.{Form, forms_of, EndsAll}
use Rattle.register_judge.proofs.states.end_all.Given as goal

abbrev pub invariant-loop-state : goal.invariant-loop-state
invariant-loop-state l =
    (new : List Form) → EndsAll l.must l.number (forms_of (drop l.state-index l.states)) (forms_of l.ended.items) new → EndsAll l.must l.number (forms_of l.states) [] new
