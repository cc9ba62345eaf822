use Rattle.serving.proofs.Common.{sym, subst, ManagerView, finishes_done, Goes, over, shown_to}
use Rattle.serving.proofs.Carrying.{finish_goes}
use Rattle.serving.proofs.Quiet.{finishes_seen}
use Rattle.serving.proofs.moving.finishes.Goals as goal

pub returns-clause-goes : goal.returns-clause-goes
returns-clause-goes g c = λ disk.
    subst (λ (v : ManagerView). Goes (over (shown_to g.P.Pen.keeps c.args.stack.now) disk (g.P.Pen.trace c.args.pen.now)) (over v disk (g.P.Pen.trace c.step-reply.new.self))) (sym c.step-reply.ensures.told.after)
    (finish_goes c.laws_of_entries.ensures.kept c.laws_of_entries.ensures.apart _ _ disk _ _ _ _ c.step-reply.ensures.told.wrote c.step-reply.ensures.told.right)

pub returns-clause-done : goal.returns-clause-done
returns-clause-done g c =
    finishes_done c.is_done.result c.args.stack.now c.step-reply.new.stack c.args.tag c.step-reply.result c.is_done.ensures
    (finishes_seen g.P.Pen.keeps c.args.stack.now c.step-reply.ensures.told.stepped c.step-reply.new.stack c.args.tag c.step-reply.result c.step-reply.ensures.told.after c.shows_whole.ensures.reached c.requires.none_fresh c.step-reply.ensures.told.right)
