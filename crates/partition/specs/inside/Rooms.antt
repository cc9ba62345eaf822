-- The spots that are reserved, as the partition driver shows them.
use Rattle.std.specs.Prelude.{◌≡◌, ◌≢◌, ℕ, ◌+◌, List, [], ◌∷◌, Option, Some, None, slice_index_or}
use Rattle.machine.specs.declared.Request.{Request}
use Rattle.device.specs.View.{DeviceView, Reserved}

-- what each spot was last reserved for, and for how many spots there is room
pub record Wanted : Type 0 where
  pub by_spot : List (Option Request)
  pub places : ℕ

abbrev pub wanted_by : List (Option Request) → ℕ → Wanted
wanted_by by_spot places = record { by_spot = by_spot; places = places }

-- what is reserved below at a spot that is wanted for a request of a partition
abbrev pub for_wanted : Option Reserved → Option Request → Option Reserved
for_wanted None wanted = None
for_wanted (Some reserved) None = Some reserved
for_wanted (Some reserved) (Some request) = Some (record reserved { request = request })

-- what is wanted at the first spot, and at the others
abbrev pub first_of : List (Option Request) → Option Request
first_of [] = None
first_of (first ∷ others) = first

abbrev pub others_of : List (Option Request) → List (Option Request)
others_of [] = []
others_of (first ∷ others) = others

-- by spots, what is reserved, each for the request of a partition
abbrev pub rooms_for : List (Option Request) → List (Option Reserved) → List (Option Reserved)
rooms_for wanted [] = []
rooms_for wanted (room ∷ rooms) = for_wanted room (first_of wanted) ∷ rooms_for (others_of wanted) rooms

abbrev pub rooms_with : Wanted → List (Option Reserved) → List (Option Reserved)
rooms_with wanted rooms = rooms_for wanted.by_spot rooms

-- a view with these rooms, and with the room for the spots beside that below
abbrev pub with_rooms : Wanted → DeviceView → DeviceView
with_rooms wanted v = record v { rooms = rooms_with wanted v.rooms; places = v.places + wanted.places }

-- the request that a spot is wanted for
abbrev pub wanted_at : Wanted → ℕ → Option Request
wanted_at wanted spot = slice_index_or wanted.by_spot spot None

-- what a spot is wanted for is noted, and all others stay
pub record Notes (old : Wanted) (spot : ℕ) (request : Request) (new : Wanted) : Type 0 where
  pub is : wanted_at new spot ≡ Some request
  pub others : (other : ℕ) → other ≢ spot → wanted_at new other ≡ wanted_at old other
