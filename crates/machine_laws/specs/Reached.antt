-- The moments of runs from an opening state.
use Rattle.std.specs.Prelude.{◌≤◌, ℕ, List, ◌++◌, Some, length}
use Rattle.machine.specs.declared.Label.{Label}
use Rattle.machine.specs.Rules.{Rules, sectors_of}
use Rattle.machine.specs.State.{State, opening}
use Rattle.machine.specs.Step.{Run}
use Rattle.machine.specs.Sending.{array_at}

-- each array has the sectors of its partition
abbrev pub AreWhole : Rules → List (List (List ℕ)) → Type 0
AreWhole rules arrays = (p : ℕ) → sectors_of rules (Some p) ≤ length (array_at arrays p)

-- a run leads there from an opening state whose arrays are whole
pub record IsReached (rules : Rules) (s : State) : Type 0 where
  pub arrays : List (List (List ℕ))
  pub labels : List Label
  pub whole : AreWhole rules arrays
  pub run : Run rules (opening arrays) labels s

-- an opening state is reached, and what a run leads to from there
abbrev pub OpeningsAreReached : Type 0
OpeningsAreReached = (rules : Rules) (arrays : List (List (List ℕ))) → AreWhole rules arrays → IsReached rules (opening arrays)

abbrev pub RunsGoOn : Type 0
RunsGoOn = (rules : Rules) (s : State) (labels : List Label) (s' : State) → IsReached rules s → Run rules s labels s' → IsReached rules s'

-- a run of joined labels passes through a state between them
abbrev pub RunsSplit : Type 0
RunsSplit = (rules : Rules) (s : State) (xs ys : List Label) (s' : State) → Run rules s (xs ++ ys) s' → (mid : State) × Run rules s xs mid × Run rules mid ys s'
