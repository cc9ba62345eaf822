-- Completion runs upward: which location's routine is called, and what of the packet reaches it.
use Rattle.std.specs.Prelude.{⊤, ◌≡◌, ◌==◌, ◌&&◌, ◌||◌, ◌-◌, ◌^◌, nat_lt, ℕ, Bool, true, false, not, List, [], ◌∷◌, ◌++◌, Option, All, take, length, bit_and}
use Rattle.ntstatus.specs.declared.NtStatus.{NtStatus}
use Rattle.ntstatus.specs.Codes.{value_of}
use Rattle.irp.specs.declared.CancelRoutine.{CancelRoutine}
use Rattle.irp.specs.declared.Climb.{Climb}
use Rattle.irp.specs.declared.Climb.TheVariants.{Routine, Finished}
use Rattle.irp.specs.declared.Done.{Done}
use Rattle.irp.specs.declared.Driver.{Driver}
use Rattle.irp.specs.declared.Irp.{Irp}
use Rattle.irp.specs.declared.Payload.{Payload}
use Rattle.irp.specs.declared.StackLocation.{StackLocation}
use Rattle.irp.specs.Packet.{cancel_routine_of}

-- whether a status is a success: its highest bit, which marks warnings and errors, is clear
abbrev pub succeeds : NtStatus → Bool
succeeds status = nat_lt (value_of status) (2 ^ 31)

-- whether a location asks to be called: at a success, at an error, or since the packet is cancelled
abbrev pub asks : Bool → Bool → StackLocation → Bool
asks success cancelled location =
    (success && (bit_and location.control.0 0x40 == 0x40))
    || (not success && (bit_and location.control.0 0x80 == 0x80))
    || (cancelled && (bit_and location.control.0 0x20 == 0x20))

-- a location that a climb passes over
abbrev pub AsksNot : Bool → Bool → StackLocation → Type 0
AsksNot success cancelled location = asks success cancelled location ≡ false

-- the locations above the packet's current driver, the topmost first: all but the last
abbrev pub above : Irp → List StackLocation
above irp = take (length irp.locations.items - 1) irp.locations.items

-- the nearest of the locations above that asks has its routine called, with the packet as it was completed
pub record CallsRoutine (above : List StackLocation) (number : ℕ) (cancelled : Bool) (status : NtStatus) (information : ℕ) (payload : Payload) (driver : Driver) (irp : Irp) : Type 0 where
  -- the locations higher than it, its own, and those nearer, which are passed over
  pub higher : List StackLocation
  pub own : StackLocation
  pub nearer : List StackLocation
  pub are_above : above ≡ (higher ++ own ∷ []) ++ nearer
  pub asked : asks (succeeds status) cancelled own ≡ true
  pub passed_over : All (AsksNot (succeeds status) cancelled) nearer
  pub driver_is : driver ≡ own.driver
  pub locations : irp.locations.items ≡ higher ++ own ∷ []
  pub number_is : irp.number ≡ number
  pub cancelled_is : irp.cancelled ≡ cancelled
  pub status_is : irp.io_status.status ≡ status
  pub information_is : irp.io_status.information ≡ information
  pub payload_is : irp.payload ≡ payload

-- no location above asks, and the packet is finished as it was completed
pub record Finishes (above : List StackLocation) (number : ℕ) (cancelled : Bool) (status : NtStatus) (information : ℕ) (payload : Payload) (done : Done) : Type 0 where
  pub passed_over : All (AsksNot (succeeds status) cancelled) above
  pub number_is : done.number ≡ number
  pub status_is : done.status ≡ status
  pub information_is : done.information ≡ information
  pub payload_is : done.payload ≡ payload

-- where a packet that is completed below these locations goes
abbrev pub Climbs : (above : List StackLocation) (number : ℕ) (cancelled : Bool) (status : NtStatus) (information : ℕ) (payload : Payload) (climb : Climb) → Type 0
Climbs above number cancelled status information payload (Routine driver irp) = CallsRoutine above number cancelled status information payload driver irp
Climbs above number cancelled status information payload (Finished done) = Finishes above number cancelled status information payload done

-- a packet on its way up has this cancel routine, or none
abbrev pub BringsRoutine : Option CancelRoutine → Climb → Type 0
BringsRoutine routine (Routine driver irp) = cancel_routine_of irp ≡ routine
BringsRoutine routine (Finished done) = ⊤
