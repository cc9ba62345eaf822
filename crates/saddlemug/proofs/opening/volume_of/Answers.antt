use Rattle.std.proofs.Common.{◌≡◌, sym, ◌∙◌}
use Rattle.saddlemug.specs.Statuses.{refusal_status, start_status}
use Rattle.saddlemug.proofs.Failing.{open_fails, refusal_fails}
use Rattle.saddlemug.proofs.opening.volume_of.Goals as goal

pub returns-in-Err-Start-clause-fault : goal.returns-in-Err-Start-clause-fault
returns-in-Err-Start-clause-fault c = λ e.
    let told : c.start_status.result ≡ start_status c.in-Err-Start.fault = rw c.in-Err-Start.field-0-is at c.start_status.ensures in
    open_fails c.args.config c.args.partition c.in-Err-Start.field-0 c.in-Err-Start.fault c.in-Err-Start.field-0-is c.in-Err-Start.ensures.fault (sym told ∙ e)

pub returns-in-Err-Refused-clause-fault : goal.returns-in-Err-Refused-clause-fault
returns-in-Err-Refused-clause-fault c = λ e.
    let told : c.refusal_status.result ≡ refusal_status c.in-Err-Refused.reason = rw c.in-Err-Refused.field-0-is at c.refusal_status.ensures in
    refusal_fails c.in-Err-Refused.reason (sym told ∙ e)
