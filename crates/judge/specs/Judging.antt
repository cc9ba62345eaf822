-- What a verdict says of a list of labels.
use Rattle.std.specs.Prelude.{◌<◌, ◌+◌, ℕ, List, Option, None, All, Any, length, map, take}
use Rattle.machine.specs.declared.Label.{Label}
use Rattle.machine.specs.Rules.{Rules}
use Rattle.machine.specs.State.{State, IsSame}
use Rattle.machine.specs.Step.{Run}
use Rattle.trace_line.specs.declared.Line.{Line}
use Rattle.trace_line.specs.Lines.{LineRun}

-- the states that the labels lead to, each in one order of its requests and pieces
pub record AreReached (rules : Rules) (s : State) (labels : List Label) (states : List State) : Type 0 where
  pub each : All (Run rules s labels) states
  pub all : (s' : State) → Run rules s labels s' → Any (IsSame s') states

-- the labels lead to some state
abbrev pub IsRun : Rules → State → List Label → Type 0
IsRun rules s labels = (s' : State) × Run rules s labels s'

-- the labels before this one are a run, and the labels up to this one are none
pub record StopsAt (rules : Rules) (s : State) (labels : List Label) (at : ℕ) : Type 0 where
  pub within : at < length labels
  pub before : IsRun rules s (take at labels)
  pub none : ¬ (IsRun rules s (take (at + 1) labels))

-- OF LINES

-- the line of a label and of the request that it names
abbrev pub line_of : Label → Option ℕ → Line
line_of label owner = record { label = label; owner = owner }

-- the line of a label that names no request
abbrev pub plain : Label → Line
plain label = line_of label None

abbrev pub all_plain : List Label → List Line
all_plain labels = map plain labels

-- the states that the lines lead to, each in one order of its requests and pieces
pub record AreLinesReached (rules : Rules) (s : State) (lines : List Line) (states : List State) : Type 0 where
  pub each : All (LineRun rules s lines) states
  pub all : (s' : State) → LineRun rules s lines s' → Any (IsSame s') states

-- the lines lead to some state
abbrev pub IsLineRun : Rules → State → List Line → Type 0
IsLineRun rules s lines = (s' : State) × LineRun rules s lines s'
