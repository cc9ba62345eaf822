use Rattle.io_manager.proofs.Common.{subst, sym, Reply, ManagerView, IsHandleOpen, IsRight, CancelReplies}
use Rattle.io_manager.proofs.Cancelled.{none_of, some_of, cancel_invalid}
use Rattle.io_manager.proofs.manager.IoManager.cancel_io_ex.Goals as goal

pub returns-then-is_none : goal.returns-then-is_none
returns-then-is_none g c = record {
  right =
      subst (λ (reply : Reply). IsRight (CancelReplies c.args.self.now c.args.handle c.args.target reply c.args.self.now) c.args.self.now c.args.self.now) (sym c.refused_alone.ensures)
      (cancel_invalid c.self.inside.parts.limits (g.D.Shown.view c.self.inside.parts.device) c.self.inside.parts.tables c.args.self.now c.self.invariant.kept c.self.view_is c.requires.taken c.args.handle c.args.target (none_of _ _ _ c.is_none.ensures c.if-is_none.true c.partition_of.ensures));
}

pub cancel_of-requires-clause-open : goal.cancel_of-requires-clause-open
cancel_of-requires-clause-open g c =
    subst (λ (v : ManagerView). IsHandleOpen v c.args.handle) c.self.view_is (some_of _ _ _ c.is_none.ensures c.if-is_none.false c.partition_of.ensures)

pub cancel_one_of-requires-clause-open : goal.cancel_one_of-requires-clause-open
cancel_one_of-requires-clause-open g c =
    subst (λ (v : ManagerView). IsHandleOpen v c.args.handle) c.self.view_is (some_of _ _ _ c.is_none.ensures c.if-is_none.false c.partition_of.ensures)
