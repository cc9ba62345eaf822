-- Where a packet that goes by pointer climbs to.
use Rattle.std.specs.Prelude.{◌≡◌, ℕ, Bool, List, [], Option, All}
use Rattle.ntstatus.specs.declared.NtStatus.{NtStatus}
use Rattle.irp.specs.declared.CancelRoutine.{CancelRoutine}
use Rattle.irp.specs.declared.Irp.{Irp}
use Rattle.irp.specs.declared.Payload.{Payload}
use Rattle.irp.specs.declared.StackLocation.{StackLocation}
use Rattle.irp.specs.Climb.{AsksNot, CallsRoutine, succeeds}
use Rattle.irp.specs.Packet.{cancel_routine_of}
use Rattle.device.specs.declared.climbing.Climb.{Climb}
use Rattle.device.specs.declared.climbing.Climb.TheVariants.{Routine, Finished}

-- no location above asks, and the packet is finished as it was completed
pub record FinishesPacket (above : List StackLocation) (number : ℕ) (cancelled : Bool) (status : NtStatus)
    (information : ℕ) (payload : Payload) (irp : Irp) : Type 0 where
  pub passed_over : All (AsksNot (succeeds status) cancelled) above
  pub locations : irp.locations.items ≡ []
  pub number_is : irp.number ≡ number
  pub cancelled_is : irp.cancelled ≡ cancelled
  pub status_is : irp.io_status.status ≡ status
  pub information_is : irp.io_status.information ≡ information
  pub payload_is : irp.payload ≡ payload

-- where a packet that is completed below these locations goes
abbrev pub Climbs : (above : List StackLocation) (number : ℕ) (cancelled : Bool) (status : NtStatus)
    (information : ℕ) (payload : Payload) (climb : Climb) → Type 0
Climbs above number cancelled status information payload (Routine driver irp) =
    CallsRoutine above number cancelled status information payload driver irp.value
Climbs above number cancelled status information payload (Finished irp) =
    FinishesPacket above number cancelled status information payload irp.value

-- a packet on its way up
abbrev pub packet_in : Climb → Irp
packet_in (Routine driver irp) = irp.value
packet_in (Finished irp) = irp.value

-- a packet on its way up has this cancel routine, or none
abbrev pub BringsRoutine : Option CancelRoutine → Climb → Type 0
BringsRoutine routine climb = cancel_routine_of (packet_in climb) ≡ routine
