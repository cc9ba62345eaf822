use Rattle.io_manager.proofs.Common.{None, subst, sym, ◌∙◌, MatchBool, Limits, Reply, HasSome, HasNoneOf, ManagerView, IsHandleOpen, IsRight, CancelReplies}
use Rattle.io_manager.specs.declared.Reply.TheVariants.{Ok as OkReply}
use Rattle.io_manager.specs.inside.Sound.{IsSound, view_of, ManagerKept}
use Rattle.io_manager.proofs.Vacant.{vacant_through}
use Rattle.io_manager.proofs.Cancelled.{cancel_all_kept, cancel_none_found}
use Rattle.io_manager.proofs.manager.IoManager.cancel_of.Goals as goal

pub returns-then-not-has_open : goal.returns-then-not-has_open
returns-then-not-has_open g c = record {
  right =
      subst (λ (reply : Reply). IsRight (CancelReplies c.args.self.now c.args.handle None reply c.args.self.now) c.args.self.now c.args.self.now) (sym c.refused_alone.ensures)
      (cancel_none_found c.self.inside.parts.limits (g.D.Shown.view c.self.inside.parts.device) c.self.inside.parts.tables c.args.self.now c.self.invariant.kept c.self.view_is c.requires.taken c.args.handle
      (subst (λ (v : ManagerView). IsHandleOpen v c.args.handle) (sym c.self.view_is) c.requires.open)
      (subst (λ b. MatchBool b (HasSome c.self.inside.parts.tables.requests c.args.handle.number) (HasNoneOf c.self.inside.parts.tables.requests c.args.handle.number)) c.if-not-has_open.true c.has_open.ensures));
}

kept : (g : _) (c : goal.After-collect g)
    → IsRight (CancelReplies c.args.self.now c.args.handle None OkReply (view_of c.collect.new.self.limits (g.D.Shown.view c.collect.new.self.device) c.collect.new.self.tables)) c.args.self.now (view_of c.collect.new.self.limits (g.D.Shown.view c.collect.new.self.device) c.collect.new.self.tables)
    × ManagerKept c.collect.new.self.limits (g.D.Shown.view c.collect.new.self.device) c.collect.new.self.tables
kept g c =
    cancel_all_kept c.self.inside.parts.limits (g.D.Shown.view c.self.inside.parts.device) c.self.inside.parts.tables c.args.self.now c.self.invariant.kept c.self.view_is c.requires.taken c.args.handle
    (g.D.Shown.view c.cancel_all_of.new.self.device) c.cancel_all_of.new.self.tables
    (subst (λ (v : ManagerView). IsHandleOpen v c.args.handle) (sym c.self.view_is) c.requires.open)
    (subst (λ b. MatchBool b (HasSome c.self.inside.parts.tables.requests c.args.handle.number) (HasNoneOf c.self.inside.parts.tables.requests c.args.handle.number)) c.if-not-has_open.false c.has_open.ensures)
    c.cancel_all_of.ensures.cancels
    (subst (λ (l : Limits). IsSound l (g.D.Shown.view c.cancel_all_of.new.self.device) c.cancel_all_of.new.self.tables) c.cancel_all_of.ensures.limits c.cancel_all_of.ensures.sound)
    c.cancel_all_of.ensures.none_left
    c.collect.new.self.limits (g.D.Shown.view c.collect.new.self.device) c.collect.new.self.tables (c.collect.ensures.limits ∙ c.cancel_all_of.ensures.limits) c.collect.ensures.sound c.collect.ensures.collects

pub invariant_of-self : goal.invariant_of-self
invariant_of-self g c = record {
  takes_buffers = c.self.invariant.takes_buffers;
  locations = c.self.invariant.locations;
  vacant = vacant_through (g.D.Shown.view c.self.inside.parts.device) (g.D.Shown.view c.cancel_all_of.new.self.device) (g.D.Shown.view c.collect.new.self.device) c.cancel_all_of.ensures.cancels.beside.same_rooms c.collect.ensures.collects.same_rooms c.self.invariant.vacant;
  kept = (kept g c).1;
}

pub returns : goal.returns
returns g c = record { right = (kept g c).0 }
