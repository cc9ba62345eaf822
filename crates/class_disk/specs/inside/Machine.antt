-- The class driver's own machine, read off what it knows of its requests and off the machine below.
use Rattle.std.specs.Prelude.{ℕ, ◌==◌, Bool, false, List, [], ◌∷◌, map, filter, None, if◌then◌else◌}
use Rattle.srb.specs.declared.Kind.TheVariants.{Flush}
use Rattle.machine.specs.State.{OpenRequest, Piece, State}
use Rattle.class_disk.specs.inside.Joint.{Note, Sent, Kept, Part, Below, Here, Known, Divided, Joint, above}

-- what stands for a packet below that isn't there; it is never shown
abbrev pub nobody : OpenRequest
nobody = record {
  number = 0;
  request = record { partition = None; kind = Flush; offset = 0; length = 0; through = false; bytes = [] };
  cancelled = false;
  late = false;
  busy_returns = 0;
  marks = [];
}

-- the open request of a number
abbrev pub open_under : ℕ → List OpenRequest → OpenRequest
open_under number [] = nobody
open_under number (o ∷ os) = if o.number == number then o else open_under number os

-- whether a piece is of the request of this number
abbrev pub is_owned_by : ℕ → Piece → Bool
is_owned_by number piece = piece.owner == number

-- a part as the machine below has it
abbrev pub part_of : State → Note → Part
part_of s (Sent number again) = Below (open_under number s.requests) again (filter (is_owned_by number) s.pieces)
part_of s (Kept marks busy) = Here marks busy

abbrev pub divided_of : State → Known → Divided
divided_of s t = record {
  number = t.number;
  request = t.request;
  cancelled = t.cancelled;
  parts = map (part_of s) t.parts;
}

-- both machines, of which this is the one below
abbrev pub joint_of : State → ℕ → List Known → Joint
joint_of s next transfers = record {
  arrays = s.arrays;
  next_above = next;
  next_below = s.next_request;
  next_piece = s.next_piece;
  removing = s.removing;
  divided = map (divided_of s) transfers;
}

-- the machine of the class driver
abbrev pub shown_state : State → ℕ → List Known → State
shown_state s next transfers = above (joint_of s next transfers)
