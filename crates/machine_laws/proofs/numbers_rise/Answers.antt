use Rattle.machine_laws.proofs.Awaiting.{calls_rise, calls_count}
use Rattle.machine_laws.proofs.numbers_rise.Goals as goal

pub returns : goal.returns
returns c = record { rise = calls_rise; count = calls_count }
