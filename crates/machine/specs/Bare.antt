-- Labels with and without their bytes.
use Rattle.std.specs.Prelude.{Bool, [], if◌then◌else◌}
use Rattle.srb.specs.Bare.{in_memory as device_in_memory}
use Rattle.machine.specs.declared.ClientRequest.{ClientRequest}
use Rattle.machine.specs.declared.Label.{Label}
use Rattle.machine.specs.declared.Label.TheVariants.{Call, Device, Answer, Cancel, Pause, Resume, Remove, Surprise, Removed}

-- the request as memory has it in the label of its call
abbrev pub request_in_memory : Bool → ClientRequest → ClientRequest
request_in_memory keeps q = record q { bytes = if keeps then q.bytes else [] }

-- the label as memory has it, which keeps its bytes or not
abbrev pub in_memory : Bool → Label → Label
in_memory keeps (Call number q) = Call number (request_in_memory keeps q)
in_memory keeps (Device label) = Device (device_in_memory keeps label)
in_memory keeps (Answer number status information bytes) = Answer number status information (if keeps then bytes else [])
in_memory keeps (Cancel number) = Cancel number
in_memory keeps Pause = Pause
in_memory keeps Resume = Resume
in_memory keeps Remove = Remove
in_memory keeps Surprise = Surprise
in_memory keeps Removed = Removed
