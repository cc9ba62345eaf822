-- It owns nothing, so it may go to another thread.
use denote.Param.Send.{IsSend, sendable}
use denote.Param.SendFields.{owner_send}
use Rattle.file_disk.specs.contracts.record.Record.{the_row, the_type}

pub send : IsSend the_row
send = owner_send the_type (search sendable, tt) (λ d. tt) (λ k x w. tt)
