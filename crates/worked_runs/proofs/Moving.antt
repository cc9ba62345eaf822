-- Acts that move places, and what an answer SUCCESS tells.
use Rattle.std.proofs.Common.{◌≡◌, ◌<◌, ◌≤◌, ℕ, zero, suc, ◌+◌, ◌-◌, List, [], ◌∷◌, ◌++◌, Some, refl, sym, ◌∙◌, ap, subst, arith, length, rules, lit<, lit≤}
use Rattle.std.specs.Prelude.{Contains}
use Rattle.std.proofs.lemmas.List.Sorted.{IsPermutation-refl}
use Rattle.ntstatus.specs.declared.NtStatus.TheVariants.{Success}
use Rattle.srb.specs.declared.DeviceLabel.TheVariants.{Act}
use Rattle.machine.specs.declared.Label.{Label}
use Rattle.machine.specs.declared.Label.TheVariants.{Call, Device, Answer}
use Rattle.machine.specs.Rules.{sectors_of}
use Rattle.machine.specs.State.{Piece, State, opening}
use Rattle.machine.specs.Sending.{array_at}
use Rattle.machine.specs.Step.{Step, Run}
use Rattle.machine_laws.specs.Reached.{AreWhole}
use Rattle.machine_laws.specs.Sectors.{part_of, IsAct}
use Rattle.machine_laws.specs.Success.{MovesPlace}
use Rattle.machine_laws.proofs.Going.{opening_is_reached, run_splits}
use Rattle.machine_laws.proofs.Success.{answered_was_moved}
use Rattle.worked_runs.specs.Small.{full_of, sectors, idle, read}
use Rattle.worked_runs.specs.Served.{pairs}
use Rattle.worked_runs.specs.Moved.{of_two, of_one, all_out, both_out, two_act, MovesItsPlaces, NeverMoves, between, MovedItsLast}
use Rattle.worked_runs.proofs.Serving.{joins_in_order}
use Rattle.worked_runs.proofs.Steps.{acted}

abbrev two_acts : IsAct both_out two_act
two_acts = record {
  number = 1;
  bytes = full_of 17 ++ full_of 34;
  piece = of_two;
  owner = all_out;
  is_act = refl;
  is_number = refl;
  is_out = (0, lit< tt, refl);
  is_open = (0, lit< tt, refl);
  is_owner = refl;
}

pub moves_its_places : MovesItsPlaces
moves_its_places = (
  _,
  acted pairs both_out of_two (of_one ∷ []) all_out (full_of 17 ∷ full_of 34 ∷ []) (sectors 17 34 51) (full_of 17 ++ full_of 34)
      refl (search rules) (search rules) refl refl (search rules) refl,
  record { act = two_acts; is_request = refl; from = lit≤ tt; below = lit< tt; hands_over = refl; stands = λ _ _. refl },
  record { act = two_acts; is_request = refl; from = lit≤ tt; below = lit< tt; hands_over = refl; stands = λ _ _. refl },
)

-- THE ACT IS OF THE PIECE OF TWO

abbrev piece_in : Label → ℕ
piece_in (Device (Act piece bytes)) = piece
piece_in _ = 0

abbrev bytes_in : Label → List ℕ
bytes_in (Device (Act piece bytes)) = bytes
bytes_in _ = []

is_of_two : (act : IsAct both_out two_act) → of_two ≡ act.piece
is_of_two act = by_place act.piece act.is_out (act.is_number ∙ sym (ap piece_in act.is_act))
  where
    by_place : (piece : Piece) → Contains both_out.pieces piece → piece.number ≡ 1 → of_two ≡ piece
    by_place piece (zero, low, is) first = is
    by_place piece (suc zero, low, is) first = let second : 2 ≡ 1 = ap (λ p. p.number) is ∙ first in cc (second)
    by_place piece (suc (suc k), low, is) first = absurd (omega (arith, low))

pub never_moves_last : (sector : List ℕ) → NeverMoves 1 2 sector
never_moves_last sector s' h = let below : 2 < 0 + 2 = subst (λ p. 2 < p.places.first + p.places.count) (sym (is_of_two h.act)) h.below in absurd (omega (arith, below))

pub never_moves_neighbours : NeverMoves 1 1 (full_of 17)
never_moves_neighbours s' h =
    let told : part_of pairs (full_of 17 ++ full_of 34) 1 ≡ full_of 17 =
    ap (λ bytes. part_of pairs bytes 1) (ap bytes_in h.act.is_act) ∙ ap (λ p. part_of pairs h.act.bytes (1 - p.places.first)) (is_of_two h.act) ∙ h.hands_over in
    let second : full_of 34 ≡ full_of 17 = told in
    cc (second)

pub never_moves_anothers : (place : ℕ) (sector : List ℕ) → NeverMoves 2 place sector
never_moves_anothers place sector s' h =
    let owner : 2 ≡ 1 = sym h.is_request ∙ h.act.is_owner ∙ sym (ap (λ p. p.owner) (is_of_two h.act)) in
    cc (owner)

-- FROM CALL TO ANSWER

whole : AreWhole pairs (sectors 17 34 51)
whole zero = lit≤ tt
whole (suc p) = past p
  where
    past : (p : ℕ) → sectors_of pairs (Some (suc p)) ≤ length (array_at (sectors 17 34 51) (suc p))
    past zero = lit≤ tt
    past (suc p) = lit≤ tt

pub moved_its_last : MovedItsLast
moved_its_last =
    let answer : Label = Answer 1 Success 6 (full_of 17 ++ full_of 34 ++ full_of 51) in
    let called : State = joins_in_order.0 in
    let split : (mid : State) × Run pairs called between mid × Run pairs mid (answer ∷ []) (idle (sectors 17 34 51) 2 3) = run_splits pairs called between (answer ∷ []) (idle (sectors 17 34 51) 2 3) joins_in_order.2 in
    record {
      called = called;
      ended = split.0;
      after = split.2.0;
      reached = opening_is_reached pairs (sectors 17 34 51) whole;
      calls = joins_in_order.1;
      run = split.1;
      answers = split.2.1;
      moved = answered_was_moved pairs 1 (read 0 6) 6 (full_of 17 ++ full_of 34 ++ full_of 51) (opening (sectors 17 34 51)) called between split.0 split.2.0
          (opening_is_reached pairs (sectors 17 34 51) whole) joins_in_order.1 split.1 split.2.1 2 (lit< tt);
    }
