use Rattle.serving.proofs.Common.{ap, ◌∙◌, Some, None, over, shown_to}
use Rattle.serving.proofs.Carrying.{carry_answers, carry_later, carry_paused, carry_refused, carry_stands, carry_waits, labels_still, pause_still, stands_still}
use Rattle.serving.proofs.Quiet.{shown_takes}
use Rattle.serving.proofs.moving.carry_out.Goals as goal

pub drain-requires-clause-stands : goal.drain-requires-clause-stands
drain-requires-clause-stands g c =
    carry_stands c.laws_of_entries.ensures.kept c.laws_of_entries.ensures.apart (shown_to g.P.Pen.keeps c.args.stack.now) (shown_to g.P.Pen.keeps c.forget_answers.new.stack) c.step-reply.ensures.told.stepped (shown_to g.P.Pen.keeps c.step-reply.new.stack) c.args.disk.now
    c.args.event c.requires.transfer (ap (shown_to g.P.Pen.keeps) c.forget_answers.ensures) c.step-reply.ensures.told.after _ c.step-reply.ensures.told.right c.requires.stands

pub returns-in-Answered-clause-requests : goal.returns-in-Answered-clause-requests
returns-in-Answered-clause-requests g c =
    carry_answers c.laws_of_entries.ensures.kept c.laws_of_entries.ensures.apart (shown_to g.P.Pen.keeps c.args.stack.now) (shown_to g.P.Pen.keeps c.forget_answers.new.stack) c.in-Answered.ensures.told.stepped (shown_to g.P.Pen.keeps c.step-reply.new.stack) c.args.disk.now
    c.args.event c.requires.transfer (ap (shown_to g.P.Pen.keeps) c.forget_answers.ensures) c.in-Answered.ensures.told.after (g.P.Pen.trace c.args.pen.now) (g.P.Pen.trace c.step-reply.new.self) c.in-Answered.ensures.told.wrote c.in-Answered.answer c.in-Answered.ensures.told.right

pub returns-in-Answered-clause-stands : goal.returns-in-Answered-clause-stands
returns-in-Answered-clause-stands g c =
    carry_stands c.laws_of_entries.ensures.kept c.laws_of_entries.ensures.apart (shown_to g.P.Pen.keeps c.args.stack.now) (shown_to g.P.Pen.keeps c.forget_answers.new.stack) c.step-reply.ensures.told.stepped (shown_to g.P.Pen.keeps c.step-reply.new.stack) c.args.disk.now
    c.args.event c.requires.transfer (ap (shown_to g.P.Pen.keeps) c.forget_answers.ensures) c.step-reply.ensures.told.after _ c.step-reply.ensures.told.right c.requires.stands

pub returns-in-Refused-clause-requests : goal.returns-in-Refused-clause-requests
returns-in-Refused-clause-requests g c =
    carry_refused c.laws_of_entries.ensures.kept c.laws_of_entries.ensures.apart (shown_to g.P.Pen.keeps c.args.stack.now) (shown_to g.P.Pen.keeps c.forget_answers.new.stack) c.in-Refused.ensures.told.stepped (shown_to g.P.Pen.keeps c.step-reply.new.stack) c.args.disk.now
    c.args.event c.requires.transfer (ap (shown_to g.P.Pen.keeps) c.forget_answers.ensures) c.in-Refused.ensures.told.after (g.P.Pen.trace c.args.pen.now) (g.P.Pen.trace c.step-reply.new.self) c.in-Refused.ensures.told.wrote c.in-Refused.refusal _ c.in-Refused.ensures.told.right

pub returns-in-Refused-clause-stands : goal.returns-in-Refused-clause-stands
returns-in-Refused-clause-stands g c =
    carry_stands c.laws_of_entries.ensures.kept c.laws_of_entries.ensures.apart (shown_to g.P.Pen.keeps c.args.stack.now) (shown_to g.P.Pen.keeps c.forget_answers.new.stack) c.step-reply.ensures.told.stepped (shown_to g.P.Pen.keeps c.step-reply.new.stack) c.args.disk.now
    c.args.event c.requires.transfer (ap (shown_to g.P.Pen.keeps) c.forget_answers.ensures) c.step-reply.ensures.told.after _ c.step-reply.ensures.told.right c.requires.stands

pub returns-in-Some-clause-requests : goal.returns-in-Some-clause-requests
returns-in-Some-clause-requests g c =
    carry_later c.laws_of_entries.ensures.kept c.laws_of_entries.ensures.apart (shown_to g.P.Pen.keeps c.args.stack.now) (shown_to g.P.Pen.keeps c.forget_answers.new.stack) c.in-Request.ensures.told.stepped (shown_to g.P.Pen.keeps c.step-reply.new.stack) c.args.disk.now
    c.args.event c.requires.transfer (ap (shown_to g.P.Pen.keeps) c.forget_answers.ensures) c.in-Request.ensures.told.after (g.P.Pen.trace c.args.pen.now) (g.P.Pen.trace c.step-reply.new.self) c.in-Request.id c.in-Request.ensures.told.right (over (shown_to g.P.Pen.keeps c.drain.new.stack) c.drain.new.disk (g.P.Pen.trace c.drain.new.pen))
    c.drain.ensures.goes c.in-Request.ensures.told.wrote c.in-Some.answer (shown_to g.P.Pen.keeps c.take_answer_of.new.self) (shown_takes g.P.Pen.keeps c.drain.new.stack c.in-Request.id.number (Some c.in-Some.answer) c.take_answer_of.new.self c.in-Some.ensures)

pub returns-in-Some-clause-taken : goal.returns-in-Some-clause-taken
returns-in-Some-clause-taken g c = labels_still c.drain.new.stack c.take_answer_of.new.self c.in-Request.id.number (Some c.in-Some.answer) c.in-Some.ensures c.drain.ensures.taken

pub returns-in-Some-clause-stands : goal.returns-in-Some-clause-stands
returns-in-Some-clause-stands g c =
    stands_still (shown_to g.P.Pen.keeps c.drain.new.stack) (shown_to g.P.Pen.keeps c.take_answer_of.new.self) c.drain.new.disk c.in-Request.id.number (Some c.in-Some.answer) (shown_takes g.P.Pen.keeps c.drain.new.stack c.in-Request.id.number (Some c.in-Some.answer) c.take_answer_of.new.self c.in-Some.ensures)
    (c.drain.ensures.goes.stands
    (carry_stands c.laws_of_entries.ensures.kept c.laws_of_entries.ensures.apart (shown_to g.P.Pen.keeps c.args.stack.now) (shown_to g.P.Pen.keeps c.forget_answers.new.stack) c.step-reply.ensures.told.stepped (shown_to g.P.Pen.keeps c.step-reply.new.stack) c.args.disk.now
    c.args.event c.requires.transfer (ap (shown_to g.P.Pen.keeps) c.forget_answers.ensures) c.step-reply.ensures.told.after _ c.step-reply.ensures.told.right c.requires.stands))

pub unreachable-requires : goal.unreachable-requires
unreachable-requires g c =
    carry_waits c.laws_of_entries.ensures.kept c.laws_of_entries.ensures.apart (shown_to g.P.Pen.keeps c.args.stack.now) (shown_to g.P.Pen.keeps c.forget_answers.new.stack) c.in-Request.ensures.told.stepped (shown_to g.P.Pen.keeps c.step-reply.new.stack) c.args.disk.now
    c.args.event c.requires.transfer (ap (shown_to g.P.Pen.keeps) c.forget_answers.ensures) c.in-Request.ensures.told.after (g.P.Pen.trace c.args.pen.now) (g.P.Pen.trace c.step-reply.new.self) c.in-Request.id c.in-Request.ensures.told.right
    (over (shown_to g.P.Pen.keeps c.drain.new.stack) c.drain.new.disk (g.P.Pen.trace c.drain.new.pen)) c.drain.ensures.goes c.law_of_answers.ensures c.shows_whole.ensures.settled c.drain.ensures.none_out c.requires.unpaused
    (shown_to g.P.Pen.keeps c.take_answer_of.new.self) (shown_takes g.P.Pen.keeps c.drain.new.stack c.in-Request.id.number None c.take_answer_of.new.self c.in-None.ensures)

pub returns-in-Answered-clause-unpaused : goal.returns-in-Answered-clause-unpaused
returns-in-Answered-clause-unpaused g c =
    carry_paused c.laws_of_entries.ensures.kept c.laws_of_entries.ensures.apart (shown_to g.P.Pen.keeps c.args.stack.now) (shown_to g.P.Pen.keeps c.forget_answers.new.stack) c.in-Answered.ensures.told.stepped (shown_to g.P.Pen.keeps c.step-reply.new.stack) c.args.disk.now
    c.args.event c.requires.transfer (ap (shown_to g.P.Pen.keeps) c.forget_answers.ensures) c.in-Answered.ensures.told.after _ c.in-Answered.ensures.told.right c.requires.unpaused

pub returns-in-Refused-clause-unpaused : goal.returns-in-Refused-clause-unpaused
returns-in-Refused-clause-unpaused g c =
    carry_paused c.laws_of_entries.ensures.kept c.laws_of_entries.ensures.apart (shown_to g.P.Pen.keeps c.args.stack.now) (shown_to g.P.Pen.keeps c.forget_answers.new.stack) c.in-Refused.ensures.told.stepped (shown_to g.P.Pen.keeps c.step-reply.new.stack) c.args.disk.now
    c.args.event c.requires.transfer (ap (shown_to g.P.Pen.keeps) c.forget_answers.ensures) c.in-Refused.ensures.told.after _ c.in-Refused.ensures.told.right c.requires.unpaused

pub returns-in-Some-clause-unpaused : goal.returns-in-Some-clause-unpaused
returns-in-Some-clause-unpaused g c =
    pause_still (shown_to g.P.Pen.keeps c.drain.new.stack) (shown_to g.P.Pen.keeps c.take_answer_of.new.self) c.in-Request.id.number (Some c.in-Some.answer) (shown_takes g.P.Pen.keeps c.drain.new.stack c.in-Request.id.number (Some c.in-Some.answer) c.take_answer_of.new.self c.in-Some.ensures)
    (c.drain.ensures.goes.same_paused
    ∙ carry_paused c.laws_of_entries.ensures.kept c.laws_of_entries.ensures.apart (shown_to g.P.Pen.keeps c.args.stack.now) (shown_to g.P.Pen.keeps c.forget_answers.new.stack) c.step-reply.ensures.told.stepped (shown_to g.P.Pen.keeps c.step-reply.new.stack) c.args.disk.now
    c.args.event c.requires.transfer (ap (shown_to g.P.Pen.keeps) c.forget_answers.ensures) c.step-reply.ensures.told.after _ c.step-reply.ensures.told.right c.requires.unpaused)
