-- The machine of a layer that holds requests above the machine of the layer below.
use Rattle.std.specs.Prelude.{ℕ, Bool, List, ◌++◌, Option, IsTrue, IsFalse, All}
use Rattle.machine.specs.Rules.{Rules}
use Rattle.machine.specs.State.{OpenRequest, State}
use Rattle.machine.specs.Sending.{IsInTurn}

-- the requests held, the next number of the layer itself, and whether it is paused
pub record Frame : Type 0 where
  pub held : List OpenRequest
  pub next_request : ℕ
  pub paused : Bool

-- the state of the layer: that of the layer below, with the requests held
abbrev pub framed : Frame → State → State
framed f s = record s { requests = s.requests ++ f.held; next_request = f.next_request; paused = f.paused }

-- the rules of the layer: those below, with a window
abbrev pub with_window : Option ℕ → Rules → Rules
with_window window rules = record rules { window = window }

-- a request below may be started although those are held, and paused or not
pub record MayPass (f : Frame) (o : OpenRequest) : Type 0 where
  pub timely : IsTrue f.paused → IsFalse o.late
  pub ahead : All (IsInTurn o) f.held

-- each request below may be started although those are held
abbrev pub AllMayPass : Frame → State → Type 0
AllMayPass f s = All (MayPass f) s.requests
