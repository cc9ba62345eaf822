use Rattle.journaled.proofs.Taking.{answer_stays}
use Rattle.journaled.proofs.journaled.Journaled.take_answer.Goals as goal

pub returns-clause-told : goal.returns-clause-told
returns-clause-told g c = answer_stays c.args.self.now c.self.inside.stack c.take_answer.new.self c.self.inside.journal c.self.view_is c.take_answer.result c.take_answer.ensures
