use Rattle.judge.specs.Views.{rules_of}
use Rattle.judge.proofs.Leaving.{settled_none, settled_some}
use Rattle.judge.proofs.machine_state.Machine.is_settled.Goals as goal

pub returns-in-None : goal.returns-in-None
returns-in-None c = settled_none (rules_of c.args.rules.now) c.args.self.now c.in-None.ensures

pub returns-in-Some : goal.returns-in-Some
returns-in-Some c = settled_some (rules_of c.args.rules.now) c.args.self.now _ c.in-Some.ensures
