-- What happens once, or holds always, along a run.
use Rattle.std.specs.Prelude.{◌⊎◌, List, [], ◌∷◌}
use Rattle.machine.specs.declared.Label.{Label}
use Rattle.machine.specs.Rules.{Rules}
use Rattle.machine.specs.State.{State}
use Rattle.machine.specs.Step.{Run}

-- at one of its steps, from a state by a label to a state
abbrev pub Sometime : (State → Label → State → Type 0) → (rules : Rules) (s : State) (labels : List Label) (s' : State) → Run rules s labels s' → Type 0
Sometime Happens rules s [] s' run = ⊥
Sometime Happens rules s (label ∷ labels) s' run = Happens s label run.0 ⊎ Sometime Happens rules run.0 labels s' run.2

-- at each of its states, from the first to the last
abbrev pub Always : (State → Type 0) → (rules : Rules) (s : State) (labels : List Label) (s' : State) → Run rules s labels s' → Type 0
Always Holds rules s [] s' run = Holds s × Holds s'
Always Holds rules s (label ∷ labels) s' run = Holds s × Always Holds rules run.0 labels s' run.2
