-- Steps and runs by lines of a trace.
use Rattle.std.specs.Prelude.{◌≡◌, ℕ, List, [], ◌∷◌, Option, Some, None, IsPermutation}
use Rattle.srb.specs.declared.DeviceLabel.{DeviceLabel}
use Rattle.srb.specs.declared.DeviceLabel.TheVariants.{Start, Act, Fault, Return}
use Rattle.machine.specs.declared.Label.{Label}
use Rattle.machine.specs.declared.Label.TheVariants.{Device}
use Rattle.machine.specs.Rules.{Rules}
use Rattle.machine.specs.State.{Piece, State, IsSame}
use Rattle.machine.specs.Step.{Step}
use Rattle.trace_line.specs.declared.Line.{Line}

-- one piece more is at the adapter, and it is of this request
pub record HasPieceOf (s s' : State) (owner : ℕ) : Type 0 where
  pub piece : Piece
  pub is_new : IsPermutation s'.pieces (piece ∷ s.pieces)
  pub is_owner : piece.owner ≡ owner

-- the piece that started is of the request that is told, if one is
abbrev pub StartIsOf : State → State → Option ℕ → Type 0
StartIsOf s s' None = Unit {0}
StartIsOf s s' (Some owner) = HasPieceOf s s' owner

abbrev pub DeviceIsOf : State → State → DeviceLabel → Option ℕ → Type 0
DeviceIsOf s s' (Start number tag block) owner = StartIsOf s s' owner
DeviceIsOf s s' (Act number bytes) owner = Unit {0}
DeviceIsOf s s' (Fault number) owner = Unit {0}
DeviceIsOf s s' (Return number class) owner = Unit {0}

abbrev pub LabelIsOf : State → State → Label → Option ℕ → Type 0
LabelIsOf s s' (Device label) owner = DeviceIsOf s s' label owner
LabelIsOf s s' _ owner = Unit {0}

-- the step by the line's label, where a piece that starts is of the request that the line tells
pub record LineStep (rules : Rules) (s : State) (line : Line) (s' : State) : Type 0 where
  pub step : Step rules s line.label s'
  pub is_of : LabelIsOf s s' line.label line.owner

-- a list of lines that leads from a state to a state
abbrev pub LineRun : Rules → State → List Line → State → Type 0
LineRun rules s [] s' = IsSame s s'
LineRun rules s (line ∷ lines) s' = (mid : State) × LineStep rules s line mid × LineRun rules mid lines s'
