-- What holds at the end of each step.
use Rattle.std.specs.Prelude.{◌≡◌, ◌<◌, ◌≤◌, ◌⊎◌, ℕ, Bool, true, false, [], Option, Some, None, count_by, length, IsTrue, IsFalse, IsNone, All}
use Rattle.std.specs.List.{list_any}
use Rattle.machine.specs.Rules.{Rules}
use Rattle.machine.specs.State.{Mark, Untouched, Out, Back, OpenRequest, State}
use Rattle.machine.specs.Sending.{is_started, is_unsent}

-- the place is out
abbrev pub is_out : Mark → Bool
is_out Out = true
is_out _ = false

-- some place of the request is out
abbrev pub has_out : OpenRequest → Bool
has_out o = list_any is_out o.marks

-- some place of the request waits to be sent
abbrev pub has_unsent : OpenRequest → Bool
has_unsent o = list_any is_unsent o.marks

-- a place that will not be sent: not untouched, and not back with busy returns to spare
abbrev pub HasGone : Rules → OpenRequest → Mark → Type 0
HasGone rules o Untouched = ⊥
HasGone rules o Back = rules.busy_limit ≤ o.busy_returns
HasGone rules o _ = Unit {0}

-- how many open requests are started
abbrev pub started_count : State → ℕ
started_count s = count_by is_started s.requests

-- the window is full, where there is one
abbrev pub IsFull : Option ℕ → ℕ → Type 0
IsFull None count = ⊥
IsFull (Some window) count = window ≤ count

-- no more than the window, where there is one
abbrev pub IsWithin : Option ℕ → ℕ → Type 0
IsWithin None count = Unit {0}
IsWithin (Some window) count = count ≤ window

-- what each open request is in a settled state, in the order of the fields below

-- not started, and late
pub record IsHeld (o : OpenRequest) : Type 0 where
  pub not_started : IsFalse (is_started o)
  pub late : IsTrue o.late

-- if cancelled, it has a place out
abbrev pub WaitsIfCancelled : OpenRequest → Type 0
WaitsIfCancelled o = IsTrue o.cancelled → IsTrue (has_out o)

-- the request has a place out
abbrev pub Waits : OpenRequest → Type 0
Waits o = IsTrue (has_out o)

-- if started and not cancelled, no place of it waits that may go
abbrev pub IsAllSent : Rules → OpenRequest → Type 0
IsAllSent rules o = IsFalse o.cancelled → IsTrue (is_started o) → All (HasGone rules o) o.marks

-- if not started, it is late or the window is full
abbrev pub IsHeldBack : Rules → State → OpenRequest → Type 0
IsHeldBack rules s o = IsFalse (is_started o) → IsTrue o.late ⊎ IsFull rules.window (started_count s)

-- if started, it has a place out or one that waits to be sent
abbrev pub HasMore : OpenRequest → Type 0
HasMore o = IsTrue (is_started o) → IsTrue (has_out o) ⊎ IsTrue (has_unsent o)

-- if started, it has a place out
abbrev pub IsAtWork : OpenRequest → Type 0
IsAtWork o = IsTrue (is_started o) → IsTrue (has_out o)

-- what no step leaves undone
pub record Settled (rules : Rules) (s : State) : Type 0 where
  pub none_owed : IsNone s.owed
  -- with nothing at the adapter only held requests are open, and none unless paused
  pub idle : s.pieces ≡ [] → All IsHeld s.requests
  pub idle_unpaused : s.pieces ≡ [] → IsFalse s.paused → s.requests ≡ []
  -- a cancelled request, and each while removing, waits for its pieces alone
  pub cancelled : All WaitsIfCancelled s.requests
  pub removing : IsTrue s.removing → All Waits s.requests
  -- with a tag free nothing waits that may go
  pub sent : length s.pieces < rules.depth → IsFalse s.removing → All (IsAllSent rules) s.requests
  pub released : length s.pieces < rules.depth → IsFalse s.removing → All (IsHeldBack rules s) s.requests
  -- a started request has a place out or still to be sent; with a tag free, one out
  pub alive : All HasMore s.requests
  pub at_work : length s.pieces < rules.depth → All IsAtWork s.requests
  pub within_window : IsWithin rules.window (started_count s)

-- a removal with nothing open is finished; no layer tells it, the stack does
abbrev pub IsFinished : State → Type 0
IsFinished s = IsTrue s.removing → s.requests ≡ [] → IsTrue s.removed
