-- What the marks of an open request say of how it went.
use Rattle.std.specs.Prelude.{◌≡◌, ◌≢◌, ◌<◌, ◌≤◌, ℕ, List, length, IsTrue, All}
use Rattle.ntstatus.specs.declared.NtStatus.TheVariants.{Success, DeviceBusy}
use Rattle.machine.specs.Rules.{Rules, place_count}
use Rattle.machine.specs.State.{Mark, Done, Failed, Back, OpenRequest, Piece, State}
use Rattle.machine.specs.Answering.{is_done}

-- a place fails with neither a success nor a busy return, and comes back by a busy return only
abbrev pub IsEarned : OpenRequest → Mark → Type 0
IsEarned o (Failed status) = (status ≢ Success) × (status ≢ DeviceBusy)
IsEarned o Back = 0 < o.busy_returns
IsEarned o _ = Unit {0}

-- each place of the request has
abbrev pub HasEarned : OpenRequest → Type 0
HasEarned o = All (IsEarned o) o.marks

-- each open request has
abbrev pub HaveEarned : State → Type 0
HaveEarned s = All HasEarned s.requests

-- the two marks are the same, but for the bytes
abbrev pub IsLike : Mark → Mark → Type 0
IsLike (Done sector) mark = IsTrue (is_done mark)
IsLike like mark = mark ≡ like

-- all untouched, all out, all done, all failed with one status or all back
abbrev pub AreAlike : List Mark → Type 0
AreAlike marks = (like : Mark) × All (IsLike like) marks

-- all places of the request are alike
abbrev pub HasAlike : OpenRequest → Type 0
HasAlike o = AreAlike o.marks

-- a piece has all places of its owner
abbrev pub IsAllOf : Piece → OpenRequest → Type 0
IsAllOf piece o = o.number ≡ piece.owner → length o.marks ≤ piece.places.count

-- the piece has all places of its request
abbrev pub IsAll : List OpenRequest → Piece → Type 0
IsAll requests piece = All (IsAllOf piece) requests

-- requests that go as one piece
pub record AreOnePiece (s : State) : Type 0 where
  pub alike : All HasAlike s.requests
  pub whole : All (IsAll s.requests) s.pieces

-- the busy returns where a request goes as one piece, once: one on a place that came back busy, and none on any other
abbrev pub IsBusyBy : ℕ → Mark → Type 0
IsBusyBy busy Back = busy ≡ 1
IsBusyBy busy _ = busy ≡ 0

-- a request that goes as one piece has all places that it asks for, and its marks tell its busy returns
pub record IsCounted (rules : Rules) (o : OpenRequest) : Type 0 where
  pub places : length o.marks ≡ place_count rules o.request
  pub busy : All (IsBusyBy o.busy_returns) o.marks

-- each open request
abbrev pub AreCounted : Rules → State → Type 0
AreCounted rules s = All (IsCounted rules) s.requests
