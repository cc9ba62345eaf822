-- Starts that are found, request by request.
use Rattle.std.specs.Prelude.{◌<◌, ℕ, List, [], Option, Some, None, length, take, drop}
use Rattle.std.specs.List.{flat_map}
use Rattle.sector.specs.declared.Extent.{Extent}
use Rattle.machine.specs.State.{OpenRequest, State}
use Rattle.judge.specs.Picking.{choices}
use Rattle.judge.specs.Next.{started_of}
use Rattle.judge.specs.declared.starts.Pending.{Pending}

-- the choice of the request at a place, alone
abbrev pub choice_at : State → ℕ → List (OpenRequest × List OpenRequest)
choice_at s at = take 1 (drop at (choices s.requests))

-- the states after a start of these places by a choice
abbrev pub started_as : State → ℕ → Extent → OpenRequest × List OpenRequest → List State
started_as s tag places (o, others) = started_of s tag o others (Some places)

-- the request of the start is open
abbrev pub IsPending : State → Option Pending → Type 0
IsPending s None = Unit {0}
IsPending s (Some start) = start.at < length s.requests

-- the states after the start that was found, if there is one
abbrev pub pending_states : State → ℕ → Option Pending → List State
pending_states s tag None = []
pending_states s tag (Some start) = flat_map (started_as s tag start.places) (choice_at s start.at)
