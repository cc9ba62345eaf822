-- Cancellation, the hold and removal.
use Rattle.std.specs.Prelude.{◌≡◌, ℕ, ◌||◌, Bool, true, false, nat_le, nat_lt, List, [], ◌∷◌, Option, Some, None, map, count_by, IsTrue, IsFalse, IsPermutation, if◌then◌else◌}
use Rattle.machine.specs.Rules.{Rules}
use Rattle.machine.specs.State.{OpenRequest, State, IsSame}

-- a request whose cancel flag is set
abbrev pub as_cancelled : OpenRequest → OpenRequest
as_cancelled o = record o { cancelled = true }

-- an open request that was not cancelled becomes cancelled; its pieces stay as they are
pub record Cancels (s : State) (number : ℕ) (s' : State) : Type 0 where
  pub request : OpenRequest
  pub others : List OpenRequest
  pub is_open : IsPermutation s.requests (request ∷ others)
  pub is_number : request.number ≡ number
  pub not_yet : IsFalse request.cancelled
  pub after : IsSame s' (record s { requests = as_cancelled request ∷ others })

-- the request has a number below this one
abbrev pub is_lower : ℕ → OpenRequest → Bool
is_lower number o = nat_lt o.number number

-- the request after a look at the window: it is late where the requests with lower numbers fill the window
abbrev pub beyond : ℕ → List OpenRequest → OpenRequest → OpenRequest
beyond window requests o = record o { late = o.late || nat_le window (count_by (is_lower o.number) requests) }

-- all but the lowest of the window are late
abbrev pub held_back : Option ℕ → List OpenRequest → List OpenRequest
held_back None requests = requests
held_back (Some window) requests = map (beyond window requests) requests

-- a pause, while neither paused nor removing: each open request but those of the window is late
pub record Pauses (rules : Rules) (s s' : State) : Type 0 where
  pub not_paused : IsFalse s.paused
  pub not_removing : IsFalse s.removing
  pub after : IsSame s' (record s { paused = true; requests = held_back rules.window s.requests })

-- a request that is not late
abbrev pub as_timely : OpenRequest → OpenRequest
as_timely o = record o { late = false }

-- the end of a pause: no request is late any more
pub record Resumes (s s' : State) : Type 0 where
  pub is_paused : IsTrue s.paused
  pub after : IsSame s' (record s { paused = false; requests = map as_timely s.requests })

-- a removal, which ends a pause and is for good
pub record Removes (s s' : State) : Type 0 where
  pub is_paused : IsTrue s.paused
  pub after : IsSame s' (record s { paused = false; removing = true })

-- a layer's removal: from any state, holding back first as a pause does
abbrev pub Drains : Rules → State → State → Type 0
Drains rules s s' = IsSame s' (record s {
  paused = false;
  removing = true;
  requests = if s.paused then s.requests else held_back rules.window s.requests;
})

-- a surprise removal, while not removing: a pause ends or, where there is none, holds back first; it is for good
pub record Surprises (rules : Rules) (s s' : State) : Type 0 where
  pub not_removing : IsFalse s.removing
  pub drains : Drains rules s s'

-- a removal has ended, once, when nothing is open
pub record Ends (s s' : State) : Type 0 where
  pub is_removing : IsTrue s.removing
  pub once : IsFalse s.removed
  pub none_open : s.requests ≡ []
  pub after : IsSame s' (record s { removed = true })
