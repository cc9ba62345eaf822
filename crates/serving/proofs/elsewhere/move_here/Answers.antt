use Rattle.serving.proofs.Common.{quiet}
use Rattle.serving.proofs.Quiet.{quiet_fits}
use Rattle.serving.proofs.Siding.{booked_quietly}
use Rattle.serving.proofs.elsewhere.move_here.Goals as goal

pub comes_back-requires : goal.comes_back-requires
comes_back-requires g c = record { taken = booked_quietly c.args.stack.now c.book_here.new.stack _ _ c.args.tag c.in-Some.failed c.in-Some.ensures c.requires.taken }

pub returns-clause-moves : goal.returns-clause-moves
returns-clause-moves g c =
    c.comes_back.ensures.comes (quiet c.args.stack.now) c.args.disk.now c.book_here.new.disk c.in-Some.failed c.requires.stands (quiet_fits c.args.stack.now c.shows_whole.ensures.whole) c.in-Some.ensures
