use Rattle.std.proofs.Common.{◌+◌, length}
use Rattle.class_disk.specs.inside.TableView.{books_of, restarts_left}
use Rattle.class_disk.proofs.TakingAll.{TakesSome}
use Rattle.class_disk.proofs.Extension.take_all.Given as goal

abbrev pub invariant-taking : goal.invariant-taking
invariant-taking g l =
    TakesSome l.fn.way (g.D.Shown.view l.initial.self.device) (books_of l.initial.self.table) (g.D.Shown.view l.self.device) (books_of l.self.table)

abbrev pub decreases-taking : goal.decreases-taking
decreases-taking g l = length (g.D.Shown.view l.self.device).packets + restarts_left (books_of l.self.table).opens
