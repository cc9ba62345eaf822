use Rattle.serving.proofs.Common.{sym, subst, ap, ◌∙◌, IsPermutation, ManagerView, State, tags_out, work, acts_done, acts_kept, Goes, over, shown_to}
use Rattle.serving.proofs.Carrying.{act_goes, booked_labels, booked_state, fewer_since}
use Rattle.serving.proofs.Quiet.{acts_seen, shown_books, shown_fits}
use Rattle.serving.proofs.moving.acts.Goals as goal

pub step-reply-requires : goal.step-reply-requires
step-reply-requires g c = record { taken = booked_labels _ _ _ _ _ c.book_armed.ensures ∙ c.requires.taken }

pub returns-clause-goes : goal.returns-clause-goes
returns-clause-goes g c =
    subst (λ (v : ManagerView). Goes (over (shown_to g.P.Pen.keeps c.args.stack.now) c.args.disk.now (g.P.Pen.trace c.args.pen.now)) (over v c.book_armed.new.disk (g.P.Pen.trace c.step-reply.new.self))) (sym c.step-reply.ensures.told.after)
    (act_goes c.laws_of_entries.ensures.idle c.laws_of_entries.ensures.booked c.laws_of_entries.ensures.armed c.laws_of_entries.ensures.tells c.laws_of_entries.ensures.silent c.laws_of_entries.ensures.asks c.laws_of_entries.ensures.apart (shown_to g.P.Pen.keeps c.args.stack.now) (shown_to g.P.Pen.keeps c.book_armed.new.stack) _ _ _ _ _
    c.requires.stands (shown_fits g.P.Pen.keeps c.args.stack.now c.shows_whole.ensures.whole) c.shows_whole-2.ensures.in_order (shown_fits g.P.Pen.keeps c.book_armed.new.stack c.shows_whole-2.ensures.whole) c.shows_whole-2.ensures.reached
    c.step-reply.ensures.told.right (g.P.Pen.trace c.args.pen.now) (g.P.Pen.trace c.step-reply.new.self) c.step-reply.ensures.told.wrote (shown_books g.P.Pen.keeps _ _ _ _ _ c.book_armed.ensures))

pub returns-clause-same_tags : goal.returns-clause-same_tags
returns-clause-same_tags g c =
    subst (λ (s : State). IsPermutation (tags_out s) (tags_out c.step-reply.new.stack.state)) (booked_state _ _ _ _ _ c.book_armed.ensures)
    (acts_kept c.book_armed.new.stack c.step-reply.new.stack c.args.tag c.step-reply.result
    (acts_seen g.P.Pen.keeps c.book_armed.new.stack c.step-reply.ensures.told.stepped c.step-reply.new.stack c.args.tag c.step-reply.result c.step-reply.ensures.told.after c.step-reply.ensures.told.right)).0

pub returns-clause-same_work : goal.returns-clause-same_work
returns-clause-same_work g c =
    (acts_kept c.book_armed.new.stack c.step-reply.new.stack c.args.tag c.step-reply.result
    (acts_seen g.P.Pen.keeps c.book_armed.new.stack c.step-reply.ensures.told.stepped c.step-reply.new.stack c.args.tag c.step-reply.result c.step-reply.ensures.told.after c.step-reply.ensures.told.right)).1
    ∙ ap (λ (s : State). work s) (booked_state _ _ _ _ _ c.book_armed.ensures)

pub returns-clause-done : goal.returns-clause-done
returns-clause-done g c =
    fewer_since c.is_done.result c.args.stack.now c.book_armed.new.stack c.step-reply.new.stack c.args.tag (booked_state _ _ _ _ _ c.book_armed.ensures)
    (acts_done c.is_done.result c.book_armed.new.stack c.step-reply.new.stack c.args.tag c.step-reply.result c.is_done.ensures
    (acts_seen g.P.Pen.keeps c.book_armed.new.stack c.step-reply.ensures.told.stepped c.step-reply.new.stack c.args.tag c.step-reply.result c.step-reply.ensures.told.after c.step-reply.ensures.told.right))
