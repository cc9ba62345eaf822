-- The labels left of small states, by hand.
use Rattle.std.specs.Prelude.{◌≡◌, ℕ, Bool, true, false, List, [], ◌∷◌, Some, None}
use Rattle.ntstatus.specs.declared.NtStatus.TheVariants.{DeviceBusy}
use Rattle.srb.specs.Fate.{Fate, Fresh, Acted}
use Rattle.srb.specs.declared.Kind.TheVariants.{Read}
use Rattle.machine.specs.declared.ClientRequest.{ClientRequest}
use Rattle.machine.specs.declared.Label.TheVariants.{Call}
use Rattle.machine.specs.Rules.{Rules}
use Rattle.machine.specs.State.{Mark, Untouched, Out, Done, Back, OpenRequest, Piece, State, opening}
use Rattle.machine_laws.specs.LabelsLeft.{labels_left, labels_brought}

-- a partition of three sectors of two bytes, pieces of at most two, and three busy returns: so two pieces, and two restarts
abbrev small : Rules
small = record {
  sector_size = 2;
  disk_sectors = 8;
  partitions = record { first = 1; count = 3 } ∷ [];
  longest = 3;
  max_transfer = 2;
  depth = 1;
  open_requests = None;
  window = None;
  one_piece = false;
  busy_limit = 3;
  any_cut = false;
  faithful = true;
  keeps_bytes = true;
}

-- a read of all three
abbrev read_of_three : ClientRequest
read_of_three = record { partition = Some 0; kind = Read; offset = 0; length = 6; through = false; bytes = [] }

-- that read open, and no other
abbrev open_with : Bool → ℕ → List Mark → OpenRequest
open_with cancelled busy_returns marks =
    record { number = 1; request = read_of_three; cancelled = cancelled; late = false; busy_returns = busy_returns; marks = marks }

abbrev state_with : OpenRequest → List Piece → State
state_with o pieces = record (opening []) { requests = o ∷ []; pieces = pieces }

-- its first piece out
abbrev first_piece : Fate → Piece
first_piece fate = record { number = 1; tag = 0; owner = 1; places = record { first = 0; count = 2 }; fate = fate }

pub record AreCountedByHand : Type 0 where
  -- a surprise and its end; during a pause a resume before them; after a refused call its answer
  pub nothing_open : labels_left small (opening []) ≡ 2
  pub paused : labels_left small (record (opening []) { paused = true }) ≡ 3
  pub owed : labels_left small (record (opening []) { owed = Some (record { number = 1; status = DeviceBusy }) }) ≡ 3
  -- a call brings itself, an answer, a cancel, three for each piece and two for each restart
  pub brought : labels_brought small (opening []) (Call 1 read_of_three) ≡ 13
  pub called : labels_left small (state_with (open_with false 0 (Untouched ∷ Untouched ∷ Untouched ∷ [])) []) ≡ 14
  -- each label uses up one: a start, an act, a return
  pub started : labels_left small (state_with (open_with false 0 (Out ∷ Out ∷ Untouched ∷ [])) (first_piece Fresh ∷ [])) ≡ 13
  pub acted : labels_left small (state_with (open_with false 0 (Out ∷ Out ∷ Untouched ∷ [])) (first_piece (Acted ([] ∷ [] ∷ [])) ∷ [])) ≡ 12
  pub returned : labels_left small (state_with (open_with false 0 (Done [] ∷ Done [] ∷ Untouched ∷ [])) []) ≡ 11
  -- the first part comes back busy and starts again, once and once more
  pub busy : labels_left small (state_with (open_with false 1 (Back ∷ Back ∷ Untouched ∷ [])) []) ≡ 12
  pub restarted : labels_left small (state_with (open_with false 1 (Out ∷ Out ∷ Untouched ∷ [])) (first_piece Fresh ∷ [])) ≡ 11
  pub busy_again : labels_left small (state_with (open_with false 2 (Back ∷ Back ∷ Untouched ∷ [])) []) ≡ 10
  -- the third ends it
  pub busy_too_often : labels_left small (state_with (open_with false 3 (Back ∷ Back ∷ Untouched ∷ [])) []) ≡ 7
  -- a cancelled request has its answer left, and what its pieces out have
  pub cancelled : labels_left small (state_with (open_with true 0 (Out ∷ Out ∷ Untouched ∷ [])) (first_piece Fresh ∷ [])) ≡ 5
