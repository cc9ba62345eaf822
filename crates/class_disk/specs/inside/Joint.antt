-- The machine of a layer whose requests go below in parts, each part a request of the layer below.
use Rattle.std.specs.Prelude.{◌≡◌, ◌≤◌, ℕ, zero, suc, ◌+◌, ◌*◌, Bool, false, List, [], ◌∷◌, ◌++◌, map, length}
use Rattle.std.specs.Prelude.{None, slice_range}
use Rattle.srb.specs.declared.Kind.TheVariants.{Write}
use Rattle.machine.specs.declared.ClientRequest.{ClientRequest}
use Rattle.machine.specs.Rules.{Rules, first_sector}
use Rattle.machine.specs.State.{Mark, Untouched, Out, Done, Failed, Back, OpenRequest, Piece, State}

-- a part of a request is below, with how often it came back busy under earlier numbers and with its pieces out; or it
-- is here, before it is sent and once it has ended
pub data Part : Type 0 where
  Below : (o : OpenRequest) → (again : ℕ) → (pieces : List Piece) → Part
  Here : (marks : List Mark) → (busy : ℕ) → Part

-- a request of the layer above, divided into its parts
pub record Divided : Type 0 where
  pub number : ℕ
  pub request : ClientRequest
  pub cancelled : Bool
  pub parts : List Part

-- both machines at once
pub record Joint : Type 0 where
  pub arrays : List (List (List ℕ))
  pub next_above : ℕ
  pub next_below : ℕ
  pub next_piece : ℕ
  pub removing : Bool
  pub divided : List Divided

-- a part that was sent again waits below untouched, and shows here as one that came back busy
abbrev pub as_back : Mark → Mark
as_back Untouched = Back
as_back Out = Out
as_back (Done sector) = Done sector
as_back (Failed status) = Failed status
as_back Back = Back

abbrev pub shown_mark : ℕ → Mark → Mark
shown_mark zero mark = mark
shown_mark (suc n) mark = as_back mark

abbrev pub lifted : ℕ → ℕ → Piece → Piece
lifted owner first piece = record piece {
  owner = owner;
  places = record { first = first + piece.places.first; count = piece.places.count };
}

abbrev pub parts_requests : List Part → List OpenRequest
parts_requests [] = []
parts_requests (Below o again pieces ∷ parts) = o ∷ parts_requests parts
parts_requests (Here marks busy ∷ parts) = parts_requests parts

abbrev pub parts_pieces : List Part → List Piece
parts_pieces [] = []
parts_pieces (Below o again pieces ∷ parts) = pieces ++ parts_pieces parts
parts_pieces (Here marks busy ∷ parts) = parts_pieces parts

abbrev pub parts_marks : List Part → List Mark
parts_marks [] = []
parts_marks (Below o again pieces ∷ parts) = map (shown_mark again) o.marks ++ parts_marks parts
parts_marks (Here marks busy ∷ parts) = marks ++ parts_marks parts

abbrev pub parts_busy : List Part → ℕ
parts_busy [] = 0
parts_busy (Below o again pieces ∷ parts) = (again + o.busy_returns) + parts_busy parts
parts_busy (Here marks busy ∷ parts) = busy + parts_busy parts

abbrev pub parts_lifted : ℕ → ℕ → List Part → List Piece
parts_lifted owner first [] = []
parts_lifted owner first (Below o again pieces ∷ parts) =
    map (lifted owner first) pieces ++ parts_lifted owner (first + length o.marks) parts
parts_lifted owner first (Here marks busy ∷ parts) = parts_lifted owner (first + length marks) parts

abbrev pub shown : Divided → OpenRequest
shown e = record {
  number = e.number;
  request = e.request;
  cancelled = e.cancelled;
  late = false;
  busy_returns = parts_busy e.parts;
  marks = parts_marks e.parts;
}

-- a list of facts of each request, one after the other
abbrev pub gathered : {X : Type 0} → (Divided → List X) → List Divided → List X
gathered of [] = []
gathered of (e ∷ es) = of e ++ gathered of es

abbrev pub requests_of : Divided → List OpenRequest
requests_of e = parts_requests e.parts

abbrev pub pieces_of : Divided → List Piece
pieces_of e = parts_pieces e.parts

-- the pieces of a request, with their places counted in it
abbrev pub lifted_pieces : Divided → List Piece
lifted_pieces e = parts_lifted e.number 0 e.parts

abbrev pub requests_below : List Divided → List OpenRequest
requests_below divided = gathered requests_of divided

abbrev pub pieces_below : List Divided → List Piece
pieces_below divided = gathered pieces_of divided

abbrev pub pieces_above : List Divided → List Piece
pieces_above divided = gathered lifted_pieces divided

abbrev pub below : Joint → State
below j = record {
  arrays = j.arrays;
  next_request = j.next_below;
  next_piece = j.next_piece;
  requests = requests_below j.divided;
  pieces = pieces_below j.divided;
  owed = None;
  paused = false;
  removing = j.removing;
  removed = false;
}

abbrev pub above : Joint → State
above j = record {
  arrays = j.arrays;
  next_request = j.next_above;
  next_piece = j.next_piece;
  requests = map shown j.divided;
  pieces = pieces_above j.divided;
  owed = None;
  paused = false;
  removing = j.removing;
  removed = false;
}

-- what a part asks for is what its request has from this place on
pub record IsPartOf (rules : Rules) (q : ClientRequest) (first : ℕ) (o : OpenRequest) : Type 0 where
  pub kind : o.request.kind ≡ q.kind
  pub through : o.request.through ≡ q.through
  pub partition : o.request.partition ≡ q.partition
  pub from : first_sector rules o.request ≡ first_sector rules q + first
  pub short : length o.marks ≤ rules.max_transfer
  pub timely : o.late ≡ false
  pub bytes : (at count : ℕ) → at + count ≤ length o.marks
      → slice_range o.request.bytes (at * rules.sector_size) ((at + count) * rules.sector_size)
      ≡ slice_range q.bytes ((first + at) * rules.sector_size) ((first + at + count) * rules.sector_size)
  -- a write's bytes are just the part's
  pub long : o.request.kind ≡ Write → length o.request.bytes ≡ length o.marks * rules.sector_size

-- WHAT THE CLASS DRIVER KNOWS BY ITSELF

-- what is known of a part: the number of its packet below and how often it came back busy before, or its marks and busy
-- returns
pub data Note : Type 0 where
  Sent : (number again : ℕ) → Note
  Kept : (marks : List Mark) → (busy : ℕ) → Note

pub record Known : Type 0 where
  pub number : ℕ
  pub request : ClientRequest
  pub cancelled : Bool
  pub parts : List Note

abbrev pub note_of : Part → Note
note_of (Below o again pieces) = Sent o.number again
note_of (Here marks busy) = Kept marks busy

abbrev pub known_of : Divided → Known
known_of e = record { number = e.number; request = e.request; cancelled = e.cancelled; parts = map note_of e.parts }
