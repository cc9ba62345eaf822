-- Where the pieces of a request begin: on the grid of the longest piece, or at any place where any cut will do.
use Rattle.std.specs.Prelude.{ℕ, true, List, [], ◌∷◌, ◌++◌}
use Rattle.srb.specs.Fate.{Fresh}
use Rattle.srb.specs.declared.DeviceLabel.TheVariants.{Start}
use Rattle.machine.specs.declared.Label.TheVariants.{Call, Device}
use Rattle.machine.specs.Rules.{Rules}
use Rattle.machine.specs.State.{State, Untouched, Out, opening}
use Rattle.machine.specs.Step.{Run}
use Rattle.worked_runs.specs.Small.{small, zeros, full_of, idle, write, write_block, opened, piece_of}
use Rattle.worked_runs.specs.Impossible.{worn_out}

-- pieces have two sectors at most
abbrev pub wide : Rules
wide = record small { max_transfer = 2 }

-- pieces have two sectors at most, and any cut will do
abbrev pub anywhere : Rules
anywhere = record wide { any_cut = true }

-- a write of three sectors; none was sent
abbrev pub three : List ℕ
three = full_of 165 ++ (full_of 165 ++ full_of 165)

abbrev pub three_wait : State
three_wait = record (idle zeros 2 1) { requests = opened 1 (write 0 6 three) (Untouched ∷ Untouched ∷ Untouched ∷ []) ∷ [] }

abbrev pub ReachesThreeWait : Type 0
ReachesThreeWait = Run wide (opening zeros) (Call 1 (write 0 6 three) ∷ []) three_wait

-- its last two sectors are at the adapter, as one piece
abbrev pub two_out : State
two_out = record (idle zeros 2 2) {
  requests = opened 1 (write 0 6 three) (Untouched ∷ Out ∷ Out ∷ []) ∷ [];
  pieces = record { number = 1; tag = 0; owner = 1; places = record { first = 1; count = 2 }; fate = Fresh } ∷ [];
}

abbrev pub StartsAnywhere : Type 0
StartsAnywhere = Run anywhere three_wait (Device (Start 1 0 (write_block 3 2)) ∷ []) two_out

-- a write whose piece came back busy as often as it may is at the adapter again, where restarts are not counted
abbrev pub out_again : State
out_again = record (idle zeros 2 4) {
  requests = record (opened 1 (write 0 2 (full_of 165)) (Out ∷ [])) { busy_returns = 2 } ∷ [];
  pieces = piece_of 3 0 1 0 Fresh ∷ [];
}

abbrev pub StartsAgain : Type 0
StartsAgain = Run (record small { any_cut = true }) worn_out (Device (Start 3 0 (write_block 2 1)) ∷ []) out_again
