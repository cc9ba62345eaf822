-- What the class driver keeps between its packets and those below.
use Rattle.std.specs.Prelude.{◌≡◌, ◌<◌, ◌≤◌, ◌⊎◌, ℕ, ◌+◌, Bool, List, [], ◌∷◌, map, length, get_or, IsTrue, IsFalse}
use Rattle.std.specs.Prelude.{All, Contains}
use Rattle.machine.specs.declared.ClientRequest.{ClientRequest}
use Rattle.machine.specs.Rules.{Rules, place_count}
use Rattle.machine.specs.State.{Mark, Untouched, Out, Done, Failed, Back, OpenRequest, Piece, State}
use Rattle.machine.specs.Numbers.{AreDistinct, request_number}
use Rattle.machine.specs.Pieces.{ArePlaced}
use Rattle.machine.specs.Marks.{HaveEarned, AreOnePiece}
use Rattle.machine.specs.Cutting.{restarts}
use Rattle.machine.specs.Sending.{is_started}
use Rattle.machine.specs.Answering.{HasEnded}
use Rattle.class_disk.specs.declared.parts.Way.{Way}
use Rattle.class_disk.specs.declared.parts.Way.TheVariants.{Returned, Unsent}
use Rattle.class_disk.specs.inside.Joint.{Part, Below, Here, Note, Sent, Kept, Known, Divided, Joint, IsPartOf}
use Rattle.class_disk.specs.inside.Joint.{parts_requests, parts_busy, shown}

-- what the machine below keeps by its own steps
pub record IsSound (s : State) : Type 0 where
  pub distinct : AreDistinct s
  pub placed : ArePlaced s
  pub earned : HaveEarned s
  pub whole : AreOnePiece s

-- the piece is of this request
abbrev pub IsOwnedBy : ℕ → Piece → Type 0
IsOwnedBy number piece = piece.owner ≡ number

-- these parts of a request, from this place on, make up the rest of it, and the pieces of a part are its own
abbrev pub AreParts : Rules → ClientRequest → ℕ → List Part → Type 0
AreParts rules q first [] = first ≡ place_count rules q
AreParts rules q first (Below o again pieces ∷ parts) =
    IsPartOf rules q first o × All (IsOwnedBy o.number) pieces × AreParts rules q (first + length o.marks) parts
AreParts rules q first (Here marks busy ∷ parts) = AreParts rules q (first + length marks) parts

-- all parts of a request make it up, in the order of their places
abbrev pub IsMadeUp : Rules → Divided → Type 0
IsMadeUp rules e = AreParts rules e.request 0 e.parts

-- the part is cancelled exactly if its request is
abbrev pub IsCancelledAs : Bool → OpenRequest → Type 0
IsCancelledAs cancelled o = o.cancelled ≡ cancelled

abbrev pub AgreesOnCancel : Divided → Type 0
AgreesOnCancel e = All (IsCancelledAs e.cancelled) (parts_requests e.parts)

-- some part of the request is below, not cancelled, under a number below this one
pub record HasPartBefore (number : ℕ) (x : Divided) : Type 0 where
  pub part : OpenRequest
  pub there : Contains (parts_requests x.parts) part
  pub timely : IsFalse part.cancelled
  pub before : part.number < number

-- a request of a lower number that is not cancelled is started, or has a part below that went down before this one
abbrev pub IsAhead : Bool → ℕ → ℕ → Divided → Type 0
IsAhead removing number part_number x =
    IsFalse removing → x.number < number → IsFalse x.cancelled → IsTrue (is_started (shown x))
    ⊎ HasPartBefore part_number x

-- the parts of the request below are in turn behind those of all earlier requests
abbrev pub AreBehind : Bool → List Divided → ℕ → ℕ → Type 0
AreBehind removing divided number part_number = All (IsAhead removing number part_number) divided

abbrev pub IsInTurn : Bool → List Divided → Divided → Type 0
IsInTurn removing divided e = All (AreBehind removing divided e.number) (map request_number (parts_requests e.parts))

-- the places of a part
abbrev pub places_in : Part → ℕ
places_in (Below o again pieces) = length o.marks
places_in (Here marks busy) = length marks

-- this many places, part by part: each part but the last is as long as a piece can be
abbrev pub AreCut : ℕ → List ℕ → Type 0
AreCut longest [] = Unit {0}
AreCut longest (count ∷ counts) = (0 < count) × (count ≤ longest) × ((count ≡ longest) ⊎ (counts ≡ []))
    × AreCut longest counts

-- 1 for a place that came back busy
abbrev pub one_if_back : Mark → ℕ
one_if_back Back = 1
one_if_back _ = 0

-- 1 for places of which the first came back busy
abbrev pub begins_back : List Mark → ℕ
begins_back marks = one_if_back (get_or marks 0 Untouched)

-- how many parts came back busy and were not sent again since
abbrev pub parts_back : List Part → ℕ
parts_back [] = 0
parts_back (Below o again pieces ∷ parts) = begins_back o.marks + parts_back parts
parts_back (Here marks busy ∷ parts) = begins_back marks + parts_back parts

-- the parts are the pieces of their request, and were sent again no more often than a request may start again
pub record IsInPieces (rules : Rules) (e : Divided) : Type 0 where
  pub cut : AreCut rules.max_transfer (map places_in e.parts)
  pub few : parts_busy e.parts ≤ parts_back e.parts + restarts rules

-- the coupling of both machines, which holds at every moment but in the midst of a cancellation
pub record Keeps (rules : Rules) (j : Joint) : Type 0 where
  pub made_up : All (IsMadeUp rules) j.divided
  pub agree : All AgreesOnCancel j.divided
  pub in_turn : All (IsInTurn j.removing j.divided) j.divided
  pub in_pieces : All (IsInPieces rules) j.divided

-- WHAT HAS ENDED, BY WHAT THE CLASS DRIVER KNOWS

-- how many busy returns the class driver counted
abbrev pub noted_busy : List Note → ℕ
noted_busy [] = 0
noted_busy (Sent number again ∷ notes) = again + noted_busy notes
noted_busy (Kept marks busy ∷ notes) = busy + noted_busy notes

-- a place that is not below will not be sent any more: its request is cancelled, the device is removed, or it came back
-- busy too often
abbrev pub IsOverMark : (cancelled removing : Bool) (limit busy : ℕ) → Mark → Type 0
IsOverMark cancelled removing limit busy Untouched = IsTrue cancelled ⊎ IsTrue removing
IsOverMark cancelled removing limit busy Back = IsTrue cancelled ⊎ IsTrue removing ⊎ (limit ≤ busy)
IsOverMark cancelled removing limit busy Out = ⊥
IsOverMark cancelled removing limit busy (Done sector) = Unit {0}
IsOverMark cancelled removing limit busy (Failed status) = Unit {0}

abbrev pub IsOverNote : (cancelled removing : Bool) (limit busy : ℕ) → Note → Type 0
IsOverNote cancelled removing limit busy (Sent number again) = Unit {0}
IsOverNote cancelled removing limit busy (Kept marks kept) = All (IsOverMark cancelled removing limit busy) marks

-- between calls each part that is not below has ended
abbrev pub IsOver : ℕ → Bool → Known → Type 0
IsOver limit removing k = All (IsOverNote k.cancelled removing limit (noted_busy k.parts)) k.parts

-- the request has at least one place
abbrev pub HasSome : Rules → Known → Type 0
HasSome rules k = 0 < place_count rules k.request

-- WHAT HAS ENDED BELOW, AND IS NOT TAKEN YET

-- a piece of the request was sent
abbrev pub WasSent : OpenRequest → Type 0
WasSent o = IsTrue (is_started o)

abbrev pub IsUntouched : Mark → Type 0
IsUntouched mark = mark ≡ Untouched

-- no piece of the request was ever sent
abbrev pub NeverSent : OpenRequest → Type 0
NeverSent o = All IsUntouched o.marks

-- all that have ended and are not taken yet did so in this way
abbrev pub EndedBy : Way → OpenRequest → Type 0
EndedBy Returned = WasSent
EndedBy Unsent = NeverSent

-- no request is like this; where all that have ended are like this, none has ended
abbrev pub IsNothing : OpenRequest → Type 0
IsNothing o = ⊥

-- the request, if it has ended, is like this
abbrev pub IsIfEnded : (OpenRequest → Type 0) → Rules → State → OpenRequest → Type 0
IsIfEnded Is rules s o = All (HasEnded rules s o) o.marks → Is o

-- all that have ended are like this: sent, after a return; never sent, after a cancellation or a removal; none, after a
-- submission
abbrev pub EndedAre : (OpenRequest → Type 0) → Rules → State → Type 0
EndedAre Is rules s = All (IsIfEnded Is rules s) s.requests

-- whatever else becomes of the request: if it ends with these marks, it was never sent
abbrev pub EndsUnsent : Rules → OpenRequest → Type 0
EndsUnsent rules o = (t : State) (p : OpenRequest) → p.marks ≡ o.marks → IsIfEnded NeverSent rules t p
