-- A packet's own location, and what a driver's step leaves of the packet.
use Rattle.std.specs.Prelude.{◌≡◌, ◌+◌, ℕ, Bool, List, [], ◌∷◌, ◌++◌, Option, if◌then◌else◌}
use Rattle.irp.specs.declared.CancelRoutine.{CancelRoutine}
use Rattle.irp.specs.declared.Driver.{Driver}
use Rattle.irp.specs.declared.Irp.{Irp}
use Rattle.irp.specs.declared.StackLocation.{StackLocation}

-- the last location is the current driver's own, and the others are above it
abbrev pub HasOwn : Irp → List StackLocation → StackLocation → Type 0
HasOwn irp higher own = irp.locations.items ≡ higher ++ own ∷ []

-- a location as the next driver gets it: with all but the control flags
abbrev pub handed_to : Driver → StackLocation → StackLocation
handed_to driver own = record own { driver = driver; control = record { 0 = 0 } }

-- the flags of a routine that is asked for at a success, at an error and at a cancelled packet
abbrev pub invoke_flags : Bool → Bool → Bool → ℕ
invoke_flags on_success on_error on_cancel =
    (if on_success then 0x40 else 0) + (if on_error then 0x80 else 0) + (if on_cancel then 0x20 else 0)

-- a location with such a routine
abbrev pub with_routine : Bool → Bool → Bool → StackLocation → StackLocation
with_routine on_success on_error on_cancel own = record own { control = record { 0 = invoke_flags on_success on_error on_cancel } }

-- the packet's cancel routine, if it has one
abbrev pub cancel_routine_of : Irp → Option CancelRoutine
cancel_routine_of irp = irp.cancel_routine

-- a packet before and after: only its locations differ
pub record KeepsAllButLocations (old new : Irp) : Type 0 where
  pub number : new.number ≡ old.number
  pub payload : new.payload ≡ old.payload
  pub cancelled : new.cancelled ≡ old.cancelled
  pub io_status : new.io_status ≡ old.io_status
  pub cancel_routine : cancel_routine_of new ≡ cancel_routine_of old

-- the packet with this cancel routine, or with none
abbrev pub with_cancel_routine : Option CancelRoutine → Irp → Irp
with_cancel_routine routine irp = record irp { cancel_routine = routine }
