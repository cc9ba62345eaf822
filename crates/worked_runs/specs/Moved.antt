-- What moves a place of a request, and what its answer SUCCESS tells of it.
use Rattle.std.specs.Prelude.{ℕ, List, [], ◌∷◌, ◌++◌}
use Rattle.ntstatus.specs.declared.NtStatus.TheVariants.{Success}
use Rattle.srb.specs.Fate.{Fresh}
use Rattle.srb.specs.declared.DeviceLabel.TheVariants.{Start, Act, Return}
use Rattle.srb.specs.declared.Class.TheVariants.{Good}
use Rattle.machine.specs.declared.Label.{Label}
use Rattle.machine.specs.declared.Label.TheVariants.{Call, Device, Answer}
use Rattle.machine.specs.State.{Out, OpenRequest, Piece, State, opening}
use Rattle.machine.specs.Step.{Step, Run}
use Rattle.machine_laws.specs.Along.{Sometime}
use Rattle.machine_laws.specs.Reached.{IsReached}
use Rattle.machine_laws.specs.Success.{MovesPlace}
use Rattle.worked_runs.specs.Small.{full_of, sectors, idle, read, read_block, opened, piece_of}
use Rattle.worked_runs.specs.Served.{pairs}

-- a read of three sectors, in a piece of two and one of one, both at the adapter
abbrev pub of_two : Piece
of_two = record { number = 1; tag = 0; owner = 1; places = record { first = 0; count = 2 }; fate = Fresh }

abbrev pub of_one : Piece
of_one = piece_of 2 1 1 2 Fresh

abbrev pub all_out : OpenRequest
all_out = opened 1 (read 0 6) (Out ∷ Out ∷ Out ∷ [])

abbrev pub both_out : State
both_out = record (idle (sectors 17 34 51) 2 3) { requests = all_out ∷ []; pieces = of_two ∷ of_one ∷ [] }

-- the act of the piece of two
abbrev pub two_act : Label
two_act = Device (Act 1 (full_of 17 ++ full_of 34))

-- it moves both its places, each with the bytes of its sector
abbrev pub MovesItsPlaces : Type 0
MovesItsPlaces = (s' : State) × Step pairs both_out two_act s' × MovesPlace pairs 1 0 (full_of 17) both_out two_act s' × MovesPlace pairs 1 1 (full_of 34) both_out two_act s'

-- not the other piece's place, not with a neighbour's bytes, and no place of another request
abbrev pub NeverMoves : ℕ → ℕ → List ℕ → Type 0
NeverMoves number place sector = (s' : State) → MovesPlace pairs number place sector both_out two_act s' → ⊥

-- the run of `JoinsInOrder`, between its call and its answer
abbrev pub between : List Label
between = Device (Start 1 0 (read_block 2 2)) ∷ Device (Start 2 1 (read_block 4 1))
    ∷ Device (Act 2 (full_of 51)) ∷ Device (Return 2 Good) ∷ Device (Act 1 (full_of 17 ++ full_of 34)) ∷ Device (Return 1 Good) ∷ []

-- its answer SUCCESS tells that a piece of it moved its last place, with the last two bytes of the answer
pub record MovedItsLast : Type 0 where
  pub called : State
  pub ended : State
  pub after : State
  pub reached : IsReached pairs (opening (sectors 17 34 51))
  pub calls : Step pairs (opening (sectors 17 34 51)) (Call 1 (read 0 6)) called
  pub run : Run pairs called between ended
  pub answers : Step pairs ended (Answer 1 Success 6 (full_of 17 ++ full_of 34 ++ full_of 51)) after
  pub moved : Sometime (MovesPlace pairs 1 2 (full_of 51)) pairs called between ended run
