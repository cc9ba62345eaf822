-- What is refused leaves the device below as it was.
use Rattle.io_manager.proofs.Common.{refl, near_same}
use Rattle.io_manager.proofs.Vacant.{on_err, none_asked}
use Rattle.io_manager.proofs.parts.Parts.reserve.Goals as goal

pub returns-in_err-cover_answers-clause-refused : goal.returns-in_err-cover_answers-clause-refused
returns-in_err-cover_answers-clause-refused g c = on_err _ (none_asked (g.D.Shown.view c.args.self.now.device))

pub returns-in_err-copies-clause-refused : goal.returns-in_err-copies-clause-refused
returns-in_err-copies-clause-refused g c = on_err _ (none_asked (g.D.Shown.view c.args.self.now.device))

pub returns-in_err-irp-clause-refused : goal.returns-in_err-irp-clause-refused
returns-in_err-irp-clause-refused g c = on_err _ (none_asked (g.D.Shown.view c.args.self.now.device))

pub returns-in_err-room-clause-refused : goal.returns-in_err-room-clause-refused
returns-in_err-room-clause-refused g c = on_err _ c.in_err-room.ensures.refused

pub returns-in_err-cover_answers-clause-near : goal.returns-in_err-cover_answers-clause-near
returns-in_err-cover_answers-clause-near g c = near_same (g.D.Shown.view c.args.self.now.device) (g.D.Shown.view c.args.self.now.device) c.args.below refl

pub returns-in_err-copies-clause-near : goal.returns-in_err-copies-clause-near
returns-in_err-copies-clause-near g c = near_same (g.D.Shown.view c.args.self.now.device) (g.D.Shown.view c.args.self.now.device) c.args.below refl

pub returns-in_err-irp-clause-near : goal.returns-in_err-irp-clause-near
returns-in_err-irp-clause-near g c = near_same (g.D.Shown.view c.args.self.now.device) (g.D.Shown.view c.args.self.now.device) c.args.below refl
