use Rattle.std.proofs.Common.{Some, subst, sym, ◌∙◌}
use Rattle.io_manager.proofs.Common.{MatchBool, Limits, Reply, IsOpenAt, IsNotOpenAt, ManagerView, IsHandleOpen, IsRight, CancelReplies}
use Rattle.io_manager.specs.declared.Reply.TheVariants.{Ok as OkReply}
use Rattle.io_manager.specs.inside.Sound.{IsSound, view_of, ManagerKept}
use Rattle.io_manager.proofs.Vacant.{vacant_through, same_unless_marked}
use Rattle.io_manager.proofs.Cancelled.{cancel_one_kept, cancel_one_not_found}
use Rattle.io_manager.proofs.manager.IoManager.cancel_one_of.Goals as goal

pub returns-then-not-holds_at : goal.returns-then-not-holds_at
returns-then-not-holds_at g c = record {
  right =
      subst (λ (reply : Reply). IsRight (CancelReplies c.args.self.now c.args.handle (Some c.args.id) reply c.args.self.now) c.args.self.now c.args.self.now) (sym c.refused_alone.ensures)
      (cancel_one_not_found c.self.inside.parts.limits (g.D.Shown.view c.self.inside.parts.device) c.self.inside.parts.tables c.args.self.now c.self.invariant.kept c.self.view_is c.requires.taken c.args.handle c.args.id
      (subst (λ (v : ManagerView). IsHandleOpen v c.args.handle) (sym c.self.view_is) c.requires.open)
      (subst (λ b. MatchBool b (IsOpenAt c.self.inside.parts.tables.requests c.args.id c.args.handle.number) (IsNotOpenAt c.self.inside.parts.tables.requests c.args.id c.args.handle.number)) c.if-not-holds_at.true c.holds_at.ensures));
}

kept : (g : _) (c : goal.After-collect g)
    → IsRight (CancelReplies c.args.self.now c.args.handle (Some c.args.id) OkReply (view_of c.collect.new.self.limits (g.D.Shown.view c.collect.new.self.device) c.collect.new.self.tables)) c.args.self.now (view_of c.collect.new.self.limits (g.D.Shown.view c.collect.new.self.device) c.collect.new.self.tables)
    × ManagerKept c.collect.new.self.limits (g.D.Shown.view c.collect.new.self.device) c.collect.new.self.tables
kept g c =
    cancel_one_kept c.self.inside.parts.limits (g.D.Shown.view c.self.inside.parts.device) c.self.inside.parts.tables c.args.self.now c.self.invariant.kept c.self.view_is c.requires.taken c.args.handle c.args.id
    (subst (λ (v : ManagerView). IsHandleOpen v c.args.handle) (sym c.self.view_is) c.requires.open)
    (subst (λ b. MatchBool b (IsOpenAt c.self.inside.parts.tables.requests c.args.id c.args.handle.number) (IsNotOpenAt c.self.inside.parts.tables.requests c.args.id c.args.handle.number)) c.if-not-holds_at.false c.holds_at.ensures)
    (g.D.Shown.view c.cancel_if_open.new.self.device) c.cancel_if_open.new.self.tables c.cancel_if_open.ensures.cancels
    (subst (λ (l : Limits). IsSound l (g.D.Shown.view c.cancel_if_open.new.self.device) c.cancel_if_open.new.self.tables) c.cancel_if_open.ensures.limits c.cancel_if_open.ensures.sound)
    c.collect.new.self.limits (g.D.Shown.view c.collect.new.self.device) c.collect.new.self.tables (c.collect.ensures.limits ∙ c.cancel_if_open.ensures.limits) c.collect.ensures.sound c.collect.ensures.collects

pub invariant_of-self : goal.invariant_of-self
invariant_of-self g c = record {
  takes_buffers = c.self.invariant.takes_buffers;
  locations = c.self.invariant.locations;
  vacant = vacant_through (g.D.Shown.view c.self.inside.parts.device) (g.D.Shown.view c.cancel_if_open.new.self.device) (g.D.Shown.view c.collect.new.self.device) (same_unless_marked _ _ _ _ _ c.cancel_if_open.ensures.cancels) c.collect.ensures.collects.same_rooms c.self.invariant.vacant;
  kept = (kept g c).1;
}

pub returns : goal.returns
returns g c = record { right = (kept g c).0 }
