use Rattle.std.proofs.Common.{List, drop}
use Rattle.register_judge.specs.inside.States.{Form, form_of, forms_of, Ends}
use Rattle.register_judge.proofs.states.end_one.Given as goal

abbrev pub invariant-loop-turn : goal.invariant-loop-turn
invariant-loop-turn l = (new : List Form) → Ends (form_of l.state) (drop l.turn-index l.turns) (forms_of l.states.items) new → Ends (form_of l.state) l.turns (forms_of l.fn.states.items) new
