use Rattle.serving.proofs.Common.{ℕ, sym, subst, quiet}
use Rattle.serving.specs.Elsewhere.{BooksSo, MovesOne}
use Rattle.serving.proofs.Quiet.{quiet_fits}
use Rattle.serving.proofs.Siding.{booked_quietly, moved_stands}
use Rattle.serving.proofs.elsewhere.take_back.Goals as goal

pub comes_back-requires : goal.comes_back-requires
comes_back-requires g c = record { taken = booked_quietly c.args.stack.now c.book_done.new.stack _ _ c.args.done.ask.tag c.in-Some.failed c.in-Some.ensures c.requires.taken }

pub returns-clause-moves : goal.returns-clause-moves
returns-clause-moves g c =
    subst (λ (t : ℕ). MovesOne (quiet c.args.stack.now) c.args.done.before t c.in-Some.failed (quiet c.comes_back.new.stack) c.args.done.after) c.tag-tag.ensures
    (c.comes_back.ensures.comes (quiet c.args.stack.now) c.args.done.before c.args.done.after c.in-Some.failed c.requires.stands (quiet_fits c.args.stack.now c.shows_whole.ensures.whole)
    (subst (λ (t : ℕ). BooksSo (quiet c.args.stack.now) c.args.done.before t c.in-Some.failed (quiet c.book_done.new.stack) c.args.done.after) (sym c.tag-tag.ensures) c.in-Some.ensures))

pub returns-clause-stands : goal.returns-clause-stands
returns-clause-stands g c = λ disk s. moved_stands (quiet c.args.stack.now) (quiet c.comes_back.new.stack) c.args.done.before c.args.done.after c.args.done.ask.tag c.in-Some.failed (returns-clause-moves g c) disk s
