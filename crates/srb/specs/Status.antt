-- The statuses of an SRB and of a SCSI target as numbers.
use Rattle.std.specs.Prelude.{ℕ}
use Rattle.srb.specs.declared.status.SrbStatus.{SrbStatus}
use Rattle.srb.specs.declared.status.SrbStatus.TheVariants.{Pending, Success, Aborted, Error, Busy, InvalidRequest, NoDevice, BusReset, RequestFlushed}
use Rattle.srb.specs.declared.status.ScsiStatus.{ScsiStatus}
use Rattle.srb.specs.declared.status.ScsiStatus.TheVariants.{Good as GoodStatus, CheckCondition, Busy as BusyStatus}

-- the code of an SRB status, without the bits for autosense and a frozen queue
abbrev pub code_of : SrbStatus → ℕ
code_of Pending = 0x00
code_of Success = 0x01
code_of Aborted = 0x02
code_of Error = 0x04
code_of Busy = 0x05
code_of InvalidRequest = 0x06
code_of NoDevice = 0x08
code_of BusReset = 0x0E
code_of RequestFlushed = 0x16

-- the status byte of a SCSI target
abbrev pub scsi_code_of : ScsiStatus → ℕ
scsi_code_of GoodStatus = 0x00
scsi_code_of CheckCondition = 0x02
scsi_code_of BusyStatus = 0x08
