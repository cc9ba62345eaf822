-- Requests and pieces taken out of a machine, and put in.
use Rattle.std.specs.Prelude.{◌≡◌, ℕ, [], ◌∷◌, ◌++◌, Option, Some, None}
use Rattle.machine.specs.State.{OpenRequest, Piece, State}
use Rattle.judge.specs.Picking.{take_out}
use Rattle.judge.specs.Next.{placed}
use Rattle.judge.specs.Deciding.{has_number, is_piece}

-- the first request of a number is taken out, if there is one
abbrev pub TakesOpen : State → ℕ → Option OpenRequest → State → Type 0
TakesOpen s number None s' = take_out (has_number number) s.requests ≡ None
TakesOpen s number (Some o) s' = (take_out (has_number number) s.requests ≡ Some (o, s'.requests)) × (s' ≡ record s { requests = s'.requests })

-- the first piece of the number is taken out, if there is one
abbrev pub TakesStarted : State → ℕ → Option Piece → State → Type 0
TakesStarted s number None s' = take_out (is_piece number) s.pieces ≡ None
TakesStarted s number (Some piece) s' = (take_out (is_piece number) s.pieces ≡ Some (piece, s'.pieces)) × (s' ≡ record s { pieces = s'.pieces })

abbrev pub with_open : OpenRequest → State → State
with_open o s = record s { requests = placed o s.requests }

abbrev pub with_started : Piece → State → State
with_started piece s = record s { pieces = s.pieces ++ piece ∷ [] }
