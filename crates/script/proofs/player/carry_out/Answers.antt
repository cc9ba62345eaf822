use Rattle.script.proofs.Answered.{tells}
use Rattle.script.proofs.player.carry_out.Goals as goal

pub returns : goal.returns
returns g c = tells _ _ _ _ _ c.requires.taken c.steps_keep_rules.ensures c.steps_leave_answers.ensures c.shows_whole.ensures.whole c.step-reply.ensures
