use Rattle.saddlemug.proofs.Faulty.{of_text}
use Rattle.saddlemug.proofs.faults.fault_of.Goals as goal

pub returns-in-Ok : goal.returns-in-Ok
returns-in-Ok c = of_text c.args.settings.now c.in-Ok.config c.start_fault.result c.in-Ok.ensures.settings c.start_fault.ensures
