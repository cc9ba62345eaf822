use Rattle.std.proofs.Common.{◌≡◌, List, ◌++◌}
use Rattle.register_judge.specs.declared.states.State.{State}
use Rattle.register_judge.specs.inside.States.{forms_of, bounds_of}
use Rattle.register_judge.specs.inside.Registers.{EachCalled}
use Rattle.register_judge.proofs.keeping.call_all.Given as goal

-- those so far are behind the others
abbrev pub invariant-loop-bound : goal.invariant-loop-bound
invariant-loop-bound l =
    (each : List State) × EachCalled l.wait l.fn.states.items each × (forms_of l.states.items ++ forms_of l.bound-iterator.rest.items ≡ forms_of each ++ bounds_of l.wait (forms_of l.fn.states.items))
