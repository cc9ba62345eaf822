-- The states that a line leads to: one at most, but by a start that several requests may make.
use Rattle.std.specs.Prelude.{◌≡◌, ℕ, ◌+◌, nat_lt, Bool, true, false, List, [], ◌∷◌, ◌++◌, Option, Some, None, Result, Ok, Err, map, replicate, option_to_list, if◌then◌else◌}
use Rattle.std.specs.List.{find, flat_map, insert, position_or_len}
use Rattle.ntstatus.specs.declared.NtStatus.{NtStatus}
use Rattle.sector.specs.declared.Extent.{Extent}
use Rattle.cdb.specs.declared.Cdb.{Cdb}
use Rattle.srb.specs.declared.Class.{Class}
use Rattle.srb.specs.declared.Class.TheVariants.{Good, Busy, Bad}
use Rattle.srb.specs.declared.DeviceLabel.{DeviceLabel}
use Rattle.srb.specs.declared.DeviceLabel.TheVariants.{Start, Act, Fault, Return}
use Rattle.srb.specs.Fate.{Fate, Fresh, Acted, Faulted}
use Rattle.srb.specs.declared.Kind.{Kind}
use Rattle.srb.specs.declared.Kind.TheVariants.{Read, Write, Flush}
use Rattle.machine.specs.declared.ClientRequest.{ClientRequest}
use Rattle.machine.specs.declared.Label.{Label}
use Rattle.machine.specs.declared.Label.TheVariants.{Call, Device, Answer, Cancel, Pause, Resume, Remove, Surprise, Removed}
use Rattle.machine.specs.Rules.{Rules}
use Rattle.machine.specs.State.{Mark, Done, Failed, Back, OpenRequest, Piece, Owed, State, opening}
use Rattle.machine.specs.Calling.{refusal, new_request}
use Rattle.machine.specs.Sending.{sent, new_piece, with_fate, written, given_back, status_of_completion}
use Rattle.machine.specs.Holding.{as_cancelled, held_back, as_timely}
use Rattle.trace_line.specs.declared.Line.{Line}
use Rattle.judge.specs.declared.start_rules.StartRule.{StartRule}
use Rattle.judge.specs.declared.reading.Told.{Told}
use Rattle.judge.specs.Picking.{take_out, choices}
use Rattle.judge.specs.Deciding.{has_number, is_piece, sectors_moved}
use Rattle.judge.specs.StartRuling.{startable}
use Rattle.judge.specs.LabelRuling.{IsToldBy, goes_by}

-- the request came after the one of this number
abbrev pub comes_after : ℕ → OpenRequest → Bool
comes_after number other = nat_lt number other.number

-- others with a request in its place, by their numbers
abbrev pub placed : OpenRequest → List OpenRequest → List OpenRequest
placed o others = insert others (position_or_len (comes_after o.number) others) o

-- CALLS AND ANSWERS

-- the request is opened, or owed an answer
abbrev pub admitted : Rules → State → ClientRequest → Option NtStatus → State
admitted rules s q None = record s { next_request = s.next_request + 1; requests = s.requests ++ new_request rules s s.next_request q ∷ [] }
admitted rules s q (Some status) =
    record s { next_request = s.next_request + 1; owed = Some (record { number = s.next_request; status = status }) }

abbrev pub called : Rules → State → ClientRequest → State
called rules s q = admitted rules s q (refusal rules s q)

-- the state without the request that was taken out of the others
abbrev pub answered_of : State → Option (OpenRequest × List OpenRequest) → Option State
answered_of s None = None
answered_of s (Some (o, others)) = Some (record s { requests = others })

abbrev pub answered : State → ℕ → Option State
answered s number = answered_of s (take_out (has_number number) s.requests)

-- the refused call has its answer
abbrev pub repaid : State → State
repaid s = record s { owed = None }

-- STARTS

-- the state after a start of these places of the request, taken out of the others
abbrev pub started_by : State → ℕ → OpenRequest → List OpenRequest → Extent → State
started_by s tag o others places = record s {
  next_piece = s.next_piece + 1;
  requests = placed (sent places o) others;
  pieces = s.pieces ++ new_piece s tag o places ∷ [];
}

abbrev pub started_of : State → ℕ → OpenRequest → List OpenRequest → Option Extent → List State
started_of s tag o others None = []
started_of s tag o others (Some places) = started_by s tag o others places ∷ []

-- the state after a start by the request of this choice, if it may make it
abbrev pub started_each : Rules → State → ℕ → Option ℕ → Cdb → OpenRequest × List OpenRequest → List State
started_each rules s tag owner command (o, others) = started_of s tag o others (startable rules s owner command o)

abbrev pub started : Rules → State → ℕ → Option ℕ → Result Cdb StartRule → List State
started rules s tag owner (Ok command) = flat_map (started_each rules s tag owner command) (choices s.requests)
started rules s tag owner (Err rule) = []

-- ACTS, FAULTS AND RETURNS

-- the arrays after an act on these places
abbrev pub arrays_after : Rules → List (List (List ℕ)) → ClientRequest → Extent → Kind → List (List ℕ) → List (List (List ℕ))
arrays_after rules arrays q places Read sectors = arrays
arrays_after rules arrays q places Write sectors = if rules.faithful then written rules (opening arrays) q places sectors else arrays
arrays_after rules arrays q places Flush sectors = arrays

abbrev pub acted_by : Rules → State → List ℕ → Piece → List Piece → Option OpenRequest → Option State
acted_by rules s bytes piece pieces None = None
acted_by rules s bytes piece pieces (Some o) =
    let sectors = sectors_moved rules piece.places.count o.request.kind bytes in
    Some (record s {
      arrays = arrays_after rules s.arrays o.request piece.places o.request.kind sectors;
      pieces = pieces ++ with_fate (Acted sectors) piece ∷ [];
    })

abbrev pub acted_of : Rules → State → List ℕ → Option (Piece × List Piece) → Option State
acted_of rules s bytes None = None
acted_of rules s bytes (Some (piece, pieces)) = acted_by rules s bytes piece pieces (find (has_number piece.owner) s.requests)

abbrev pub acted : Rules → State → ℕ → List ℕ → Option State
acted rules s number bytes = acted_of rules s bytes (take_out (is_piece number) s.pieces)

abbrev pub faulted_of : State → Option (Piece × List Piece) → Option State
faulted_of s None = None
faulted_of s (Some (piece, pieces)) = Some (record s { pieces = pieces ++ with_fate Faulted piece ∷ [] })

abbrev pub faulted : State → ℕ → Option State
faulted s number = faulted_of s (take_out (is_piece number) s.pieces)

-- the marks that a piece leaves by a good return, where it acted
abbrev pub marks_of_fate : Fate → List Mark
marks_of_fate Fresh = []
marks_of_fate (Acted sectors) = map Done sectors
marks_of_fate Faulted = []

abbrev pub marks_left : Piece → Class → List Mark
marks_left piece Good = marks_of_fate piece.fate
marks_left piece Busy = replicate piece.places.count Back
marks_left piece (Bad completion) = replicate piece.places.count (Failed (status_of_completion completion))

abbrev pub returned_by : State → Class → Piece → List Piece → Option (OpenRequest × List OpenRequest) → Option State
returned_by s class piece pieces None = None
returned_by s class piece pieces (Some (o, others)) =
    Some (record s { requests = placed (given_back piece class (marks_left piece class) o) others; pieces = pieces })

abbrev pub returned_of : State → Class → Option (Piece × List Piece) → Option State
returned_of s class None = None
returned_of s class (Some (piece, pieces)) = returned_by s class piece pieces (take_out (has_number piece.owner) s.requests)

abbrev pub returned : State → ℕ → Class → Option State
returned s number class = returned_of s class (take_out (is_piece number) s.pieces)

-- CANCELLATION, THE HOLD AND REMOVAL

abbrev pub cancelled_of : State → Option (OpenRequest × List OpenRequest) → Option State
cancelled_of s None = None
cancelled_of s (Some (o, others)) = Some (record s { requests = placed (as_cancelled o) others })

abbrev pub cancelled : State → ℕ → Option State
cancelled s number = cancelled_of s (take_out (has_number number) s.requests)

abbrev pub paused : Rules → State → State
paused rules s = record s { paused = true; requests = held_back rules.window s.requests }

abbrev pub resumed : State → State
resumed s = record s { paused = false; requests = map as_timely s.requests }

abbrev pub drained : State → State
drained s = record s { paused = false; removing = true }

abbrev pub surprised : Rules → State → State
surprised rules s = record s {
  paused = false;
  removing = true;
  requests = if s.paused then s.requests else held_back rules.window s.requests;
}

abbrev pub ended : State → State
ended s = record s { removed = true }

-- EACH LABEL

-- the states after a label of the adapter that breaks no rule
abbrev pub device_after : Rules → Told → State → DeviceLabel → List State
device_after rules told s (Start number tag block) = started rules s tag told.owner told.read
device_after rules told s (Act number bytes) = option_to_list (acted rules s number bytes)
device_after rules told s (Fault number) = option_to_list (faulted s number)
device_after rules told s (Return number class) = option_to_list (returned s number class)

-- the states after a label that breaks no rule, where no answer is owed
abbrev pub free_after : Rules → Told → State → Label → List State
free_after rules told s (Call number q) = called rules s q ∷ []
free_after rules told s (Device label) = device_after rules told s label
free_after rules told s (Answer number status informed bytes) = option_to_list (answered s number)
free_after rules told s (Cancel number) = option_to_list (cancelled s number)
free_after rules told s Pause = paused rules s ∷ []
free_after rules told s Resume = resumed s ∷ []
free_after rules told s Remove = drained s ∷ []
free_after rules told s Surprise = surprised rules s ∷ []
free_after rules told s Removed = ended s ∷ []

abbrev pub after_of : Rules → Told → State → Label → Option Owed → List State
after_of rules told s label None = free_after rules told s label
after_of rules told s label (Some owed) = repaid s ∷ []

-- the states that the label leads to: none where it breaks a rule
abbrev pub next : Rules → Told → Label → State → List State
next rules told label s = if goes_by rules told label s then after_of rules told s label s.owed else []

-- the states that the line leads to from these
abbrev pub AreNext : Rules → Line → List State → List State → Type 0
AreNext rules line states after = (told : Told) × IsToldBy line told × (after ≡ flat_map (next rules told line.label) states)
