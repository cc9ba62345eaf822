use Rattle.io_manager.proofs.Common.{ℕ, subst, OpensHandle, IsRight, OpenReplies, view_of, ManagerKept}
use Rattle.io_manager.proofs.Handing.{opened_kept}
use Rattle.io_manager.proofs.manager.IoManager.open.Goals as goal

kept : (g : _) → (c : goal.After-open g)
    → IsRight (OpenReplies c.args.self.now c.args.partition c.open.result (view_of c.self.inside.parts.limits (g.D.Shown.view c.self.inside.parts.device) c.open.new.self)) c.args.self.now
    (view_of c.self.inside.parts.limits (g.D.Shown.view c.self.inside.parts.device) c.open.new.self)
    × ManagerKept c.self.inside.parts.limits (g.D.Shown.view c.self.inside.parts.device) c.open.new.self
kept g c =
    opened_kept c.self.inside.parts.limits (g.D.Shown.view c.self.inside.parts.device) c.self.inside.parts.tables c.args.self.now c.self.invariant.kept c.self.view_is c.requires.taken
    c.args.partition c.open.result c.open.new.self
    (subst (λ (n : ℕ). OpensHandle c.self.inside.parts.tables c.args.partition n c.open.result c.open.new.self) c.volumes-partitions.ensures c.open.ensures)

pub invariant_of-self : goal.invariant_of-self
invariant_of-self g c = record {
  takes_buffers = c.self.invariant.takes_buffers;
  locations = c.self.invariant.locations;
  vacant = c.self.invariant.vacant;
  kept = (kept g c).1;
}

pub returns : goal.returns
returns g c = record { right = (kept g c).0 }
