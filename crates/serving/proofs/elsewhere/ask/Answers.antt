use Rattle.serving.proofs.Common.{quiet}
use Rattle.serving.proofs.Requesting.{asks_stand, asks_answered, asks_called, asks_refused}
use Rattle.serving.proofs.Quiet.{quiet_after}
use Rattle.serving.proofs.elsewhere.ask.Goals as goal

pub returns-in-Request-clause-asks : goal.returns-in-Request-clause-asks
returns-in-Request-clause-asks c =
    asks_called c.laws_of_entries.ensures.kept c.laws_of_entries.ensures.apart (quiet c.args.stack.now) c.in-Request.ensures.untraced.stepped (quiet c.step_untraced-reply.new.self)
    c.args.event c.requires.transfer (quiet_after _ _ _ _ c.in-Request.ensures.untraced) c.in-Request.id c.in-Request.ensures.untraced.right

pub returns-in-Answered-clause-asks : goal.returns-in-Answered-clause-asks
returns-in-Answered-clause-asks c =
    asks_answered c.laws_of_entries.ensures.kept c.laws_of_entries.ensures.apart (quiet c.args.stack.now) c.in-Answered.ensures.untraced.stepped (quiet c.step_untraced-reply.new.self)
    c.args.event c.requires.transfer (quiet_after _ _ _ _ c.in-Answered.ensures.untraced) c.in-Answered.answer c.in-Answered.ensures.untraced.right

pub returns-in-Refused-clause-asks : goal.returns-in-Refused-clause-asks
returns-in-Refused-clause-asks c =
    asks_refused c.laws_of_entries.ensures.kept c.laws_of_entries.ensures.apart (quiet c.args.stack.now) c.in-Refused.ensures.untraced.stepped (quiet c.step_untraced-reply.new.self)
    c.args.event c.requires.transfer (quiet_after _ _ _ _ c.in-Refused.ensures.untraced) c.in-Refused.refusal _ c.in-Refused.ensures.untraced.right

pub returns-in-Request-clause-stands : goal.returns-in-Request-clause-stands
returns-in-Request-clause-stands c =
    asks_stand c.laws_of_entries.ensures.kept c.laws_of_entries.ensures.apart (quiet c.args.stack.now) c.in-Request.ensures.untraced.stepped (quiet c.step_untraced-reply.new.self)
    c.args.event c.requires.transfer (quiet_after _ _ _ _ c.in-Request.ensures.untraced) _ c.in-Request.ensures.untraced.right

pub returns-in-Answered-clause-stands : goal.returns-in-Answered-clause-stands
returns-in-Answered-clause-stands c =
    asks_stand c.laws_of_entries.ensures.kept c.laws_of_entries.ensures.apart (quiet c.args.stack.now) c.in-Answered.ensures.untraced.stepped (quiet c.step_untraced-reply.new.self)
    c.args.event c.requires.transfer (quiet_after _ _ _ _ c.in-Answered.ensures.untraced) _ c.in-Answered.ensures.untraced.right

pub returns-in-Refused-clause-stands : goal.returns-in-Refused-clause-stands
returns-in-Refused-clause-stands c =
    asks_stand c.laws_of_entries.ensures.kept c.laws_of_entries.ensures.apart (quiet c.args.stack.now) c.in-Refused.ensures.untraced.stepped (quiet c.step_untraced-reply.new.self)
    c.args.event c.requires.transfer (quiet_after _ _ _ _ c.in-Refused.ensures.untraced) _ c.in-Refused.ensures.untraced.right
