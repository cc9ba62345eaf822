-- What a layer keeps that holds requests above a window of them below.
use Rattle.std.specs.Prelude.{◌≡◌, ◌<◌, ◌≤◌, ◌⊎◌, ℕ, List, [], length, IsTrue, IsFalse, All}
use Rattle.machine.specs.State.{OpenRequest, State}
use Rattle.machine.specs.Sending.{is_started}
use Rattle.machine.specs.Frame.{Frame}

abbrev pub HasLowerNumber : OpenRequest → OpenRequest → Type 0
HasLowerNumber o other = other.number < o.number

-- called after each of those below
abbrev pub IsAbove : List OpenRequest → OpenRequest → Type 0
IsAbove below o = All (HasLowerNumber o) below

abbrev pub IsTimely : OpenRequest → Type 0
IsTimely o = IsFalse o.late

abbrev pub IsLate : OpenRequest → Type 0
IsLate o = IsTrue o.late

-- neither started nor cancelled
pub record IsWaiting (o : OpenRequest) : Type 0 where
  pub not_started : IsFalse (is_started o)
  pub not_cancelled : IsFalse o.cancelled

-- at every moment: the held came later than those below, of which there are no more than the window
pub record Holds (window : ℕ) (f : Frame) (s : State) : Type 0 where
  pub above : All (IsAbove s.requests) f.held
  pub timely : All IsTimely s.requests
  pub not_paused : IsFalse s.paused
  pub within : length s.requests ≤ window

-- between calls: what is held is late, or the window is full
pub record HasReleased (window : ℕ) (f : Frame) (s : State) : Type 0 where
  pub waiting : All IsWaiting f.held
  pub late : IsTrue f.paused → All IsLate f.held
  pub full : IsFalse f.paused → (f.held ≡ []) ⊎ (window ≤ length s.requests)
  pub none_removing : IsTrue s.removing → f.held ≡ []
