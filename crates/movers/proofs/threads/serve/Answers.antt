use Rattle.std.proofs.Common.{◌≡◌, ◌∷◌, List, sym, subst}
use Rattle.file_disk.specs.Transfers.{DiskView}
use Rattle.movers.specs.Moving.{AreMade, DoneView, IsMade, MadeTasks}
use Rattle.movers.proofs.threads.serve.Goals as goal
use Rattle.movers.proofs.threads.serve.Goals.{in-None, in-Some+in_default, in-Some+in-Ok+then-not-serve_one}

one_more : (old mid new : DiskView) → MadeTasks old mid → ((done : DoneView) × IsMade mid done new) → MadeTasks old new
one_more old mid new so one = (one.0 ∷ so.0, (mid, so.1, one.1))

pub loop-preserved : goal.loop-preserved
loop-preserved g c = one_more _ _ _ c.loop.invariant c.serve_one.ensures

pub returns : goal.returns
returns g c = elim c.match-next.branch [
  | in-None w ↦ subst (MadeTasks c.args.disk) (sym w.disk-is) c.loop.invariant
  | in-Some+in_default w ↦ subst (MadeTasks c.args.disk) (sym w.disk-is) c.loop.invariant
  | in-Some+in-Ok+then-not-serve_one w ↦ subst (MadeTasks c.args.disk) (sym w.disk-is) (one_more _ _ _ c.loop.invariant w.serve_one.ensures)
]
