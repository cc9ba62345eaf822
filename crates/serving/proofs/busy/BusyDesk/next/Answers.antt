use Rattle.serving.proofs.Common.{Some}
use Rattle.serving.proofs.Since.{steps_more}
use Rattle.serving.proofs.busy.BusyDesk.next.Goals as goal

pub returns-in-Some-step : goal.returns-in-Some-step
returns-in-Some-step g c = steps_more c.args.self.now c.loop.self c.step.new.self (Some c.in-Some-step.happening) c.loop.invariant c.in-Some-step.ensures
