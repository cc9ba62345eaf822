-- What a cancellation does to the tables and to the device below.
use Rattle.std.specs.Prelude.{◌≡◌, ◌≢◌, ◌≤◌, ◌<◌, ◌⊎◌, ◌+◌, ℕ, true, false, List, [], ◌∷◌, ◌++◌, Some, None, map}
use Rattle.std.specs.Prelude.{slice_set, length, All, Contains}
use Rattle.slab.specs.Slab.{Slab, get, slab_len, Updates}
use Rattle.machine.specs.declared.Label.TheVariants.{Cancel}
use Rattle.machine.specs.Holding.{Cancels}
use Rattle.machine.specs.Step.{Run}
use Rattle.device.specs.View.{DeviceView}
use Rattle.device.specs.Served.{IsBeside}
use Rattle.io_manager.specs.declared.Id.{Id}
use Rattle.io_manager.specs.declared.cancelling.PacketBelow.{PacketBelow}
use Rattle.io_manager.specs.declared.tables.OpenRequest.{OpenRequest}
use Rattle.io_manager.specs.declared.tables.Tables.{Tables}
use Rattle.io_manager.specs.inside.Chains.{TakesOut}
use Rattle.io_manager.specs.inside.Queue.{SameQueue}
use Rattle.io_manager.specs.Right.{as_cancel, AreRising}
use Rattle.io_manager.specs.inside.Sound.{holders_of}

-- an open request with its cancel flag set
abbrev pub as_marked : OpenRequest → OpenRequest
as_marked request = record request { cancelled = true }

-- the slot has an open request that is not cancelled yet
pub record IsToMark (requests : Slab OpenRequest) (slot : ℕ) : Type 0 where
  pub request : OpenRequest
  pub there : get requests slot ≡ Some request
  pub not_yet : request.cancelled ≡ false

-- the slot has an open request
pub record IsUsed (requests : Slab OpenRequest) (slot : ℕ) : Type 0 where
  pub request : OpenRequest
  pub there : get requests slot ≡ Some request

-- the slot has no open request, or one that is cancelled
abbrev pub IsMarkedOrNone : Slab OpenRequest → ℕ → Type 0
IsMarkedOrNone requests slot = (request : OpenRequest) → get requests slot ≡ Some request → request.cancelled ≡ true

-- a handle of this number has an open request
pub record HasSome (requests : Slab OpenRequest) (handle : ℕ) : Type 0 where
  pub slot : ℕ
  pub request : OpenRequest
  pub there : get requests slot ≡ Some request
  pub of_handle : request.handle ≡ handle

-- a handle of this number has no open request
abbrev pub HasNoneOf : Slab OpenRequest → ℕ → Type 0
HasNoneOf requests handle = (slot : ℕ) (request : OpenRequest) → get requests slot ≡ Some request
    → request.handle ≢ handle

-- this request is open, on a handle of that number
pub record IsOpenAt (requests : Slab OpenRequest) (id : Id) (handle : ℕ) : Type 0 where
  pub request : OpenRequest
  pub there : get requests id.slot ≡ Some request
  pub is_number : request.number ≡ id.number
  pub of_handle : request.handle ≡ handle

-- this request is not open on a handle of that number
abbrev pub IsNotOpenAt : Slab OpenRequest → Id → ℕ → Type 0
IsNotOpenAt requests id handle = (request : OpenRequest) → get requests id.slot ≡ Some request
    → request.number ≡ id.number → request.handle ≢ handle

-- the slot's handle is closed
pub record ClosesSlot (old : Tables) (slot : ℕ) (new : Tables) : Type 0 where
  pub closes : Updates old.handles new.handles slot None
  pub slots : new.handles.capacity ≡ old.handles.capacity
  pub after : new ≡ record old { handles = new.handles }

-- none of a handle's open requests could be cancelled
abbrev pub HasNoneToMark : Slab OpenRequest → ℕ → Type 0
HasNoneToMark requests handle = (slot : ℕ) (request : OpenRequest) → get requests slot ≡ Some request
    → request.handle ≡ handle → request.cancelled ≢ false

-- a handle's open request in this slot is the lowest that could be cancelled
pub record IsLowestToMark (requests : Slab OpenRequest) (handle slot : ℕ) : Type 0 where
  pub request : OpenRequest
  pub there : get requests slot ≡ Some request
  pub of_handle : request.handle ≡ handle
  pub not_yet : request.cancelled ≡ false
  pub lowest : (other : ℕ) (higher : OpenRequest) → get requests other ≡ Some higher → higher.handle ≡ handle
      → higher.cancelled ≡ false → request.number ≤ higher.number

-- the open request in this slot is cancelled, and that is told
pub record MarksAt (old : Tables) (slot : ℕ) (place : PacketBelow) (new : Tables) : Type 0 where
  pub request : OpenRequest
  pub there : get old.requests slot ≡ Some request
  pub not_yet : request.cancelled ≡ false
  pub is_place : place ≡ record { spot = request.spot; number = request.number }
  pub marks : Updates old.requests new.requests slot (Some (as_marked request))
  pub slots_are : new.requests.slots ≡ slice_set old.requests.slots slot (Some (as_marked request))
  pub counted : slab_len new.requests ≡ slab_len old.requests
  pub slots : new.requests.capacity ≡ old.requests.capacity
  pub tells : new.labels.items ≡ old.labels.items ++ Cancel request.number ∷ []
  pub one_more : length new.labels.items ≡ length old.labels.items + 1
  pub label_places : SameQueue old.labels new.labels
  pub chains : TakesOut old.chains slot new.chains
  pub after : new ≡ record old { requests = new.requests; chains = new.chains; labels = new.labels }

-- the open request in this slot is cancelled, and so is its packet below
pub record CancelsSlot (below : DeviceView) (tables : Tables) (slot : ℕ) (below' : DeviceView)
    (tables' : Tables) : Type 0 where
  pub place : PacketBelow
  pub marks : MarksAt tables slot place tables'
  pub cancels : Cancels below.state place.number below'.state
  pub beside : IsBeside below below'

-- the request in this slot becomes cancelled; if it was cancelled before, nothing changes
pub record CancelsUnlessMarked (below : DeviceView) (tables : Tables) (slot : ℕ) (below' : DeviceView)
    (tables' : Tables) : Type 0 where
  pub one_of : (IsMarkedOrNone tables.requests slot × (below' ≡ below) × (tables' ≡ tables))
      ⊎ CancelsSlot below tables slot below' tables'

-- an open request of this number and handle, not cancelled yet
pub record IsUnmarked (requests : Slab OpenRequest) (handle number : ℕ) : Type 0 where
  pub slot : ℕ
  pub request : OpenRequest
  pub there : get requests slot ≡ Some request
  pub of_handle : request.handle ≡ handle
  pub is_number : request.number ≡ number
  pub not_yet : request.cancelled ≡ false

-- a number is below that of each request of the handle that is not cancelled yet
abbrev pub IsBelowUnmarked : Slab OpenRequest → ℕ → ℕ → Type 0
IsBelowUnmarked requests handle number = (slot : ℕ) (request : OpenRequest) → get requests slot ≡ Some request
    → request.handle ≡ handle → request.cancelled ≡ false → number < request.number

-- requests of these numbers, by rising numbers, are cancelled here and below
pub record CancelsAll (below : DeviceView) (tables : Tables) (handle : ℕ) (below' : DeviceView)
    (tables' : Tables) : Type 0 where
  pub numbers : List ℕ
  pub rising : AreRising numbers
  pub each : All (IsUnmarked tables.requests handle) numbers
  pub below_rest : All (IsBelowUnmarked tables'.requests handle) numbers
  pub kept : (slot : ℕ) (request : OpenRequest) → get tables.requests slot ≡ Some request
      → (get tables'.requests slot ≡ Some request)
      ⊎ ((get tables'.requests slot ≡ Some (as_marked request)) × Contains numbers request.number)
  pub free : (slot : ℕ) → get tables.requests slot ≡ None → get tables'.requests slot ≡ None
  pub counted : slab_len tables'.requests ≡ slab_len tables.requests
  pub slots : tables'.requests.capacity ≡ tables.requests.capacity
  pub same_holders : holders_of tables'.requests ≡ holders_of tables.requests
  pub tells : tables'.labels.items ≡ tables.labels.items ++ map as_cancel numbers
  pub label_places : SameQueue tables.labels tables'.labels
  pub after : tables' ≡ record tables { requests = tables'.requests; chains = tables'.chains; labels = tables'.labels }
  pub run : Run below.rules below.state (map as_cancel numbers) below'.state
  pub beside : IsBeside below below'
