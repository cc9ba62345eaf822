use Rattle.io_manager.proofs.Common.{subst, ◌∙◌, Limits, IsRight, MarkReplies}
use Rattle.io_manager.specs.declared.Reply.TheVariants.{Ok as OkReply}
use Rattle.io_manager.specs.inside.Sound.{IsSound, view_of, ManagerKept}
use Rattle.io_manager.proofs.Vacant.{vacant_through, same_unless_marked}
use Rattle.io_manager.proofs.Cancelled.{mark_kept, mark_ignored}
use Rattle.io_manager.proofs.manager.IoManager.mark.Goals as goal

pub returns-in_default : goal.returns-in_default
returns-in_default g c = record { right = mark_ignored c.self.inside.parts.limits (g.D.Shown.view c.self.inside.parts.device) c.self.inside.parts.tables c.args.self.now c.self.invariant.kept c.self.view_is c.requires.taken c.args.number c.in_default.ensures }

kept : (g : _) (c : goal.After-collect g)
    → IsRight (MarkReplies c.args.self.now c.args.number OkReply (view_of c.collect.new.self.limits (g.D.Shown.view c.collect.new.self.device) c.collect.new.self.tables)) c.args.self.now (view_of c.collect.new.self.limits (g.D.Shown.view c.collect.new.self.device) c.collect.new.self.tables)
    × ManagerKept c.collect.new.self.limits (g.D.Shown.view c.collect.new.self.device) c.collect.new.self.tables
kept g c =
    mark_kept c.self.inside.parts.limits (g.D.Shown.view c.self.inside.parts.device) c.self.inside.parts.tables c.args.self.now c.self.invariant.kept c.self.view_is c.requires.taken c.args.number c.in-Some.slot c.in-Some.ensures
    (g.D.Shown.view c.cancel_if_open.new.self.device) c.cancel_if_open.new.self.tables c.cancel_if_open.ensures.cancels
    (subst (λ (l : Limits). IsSound l (g.D.Shown.view c.cancel_if_open.new.self.device) c.cancel_if_open.new.self.tables) c.cancel_if_open.ensures.limits c.cancel_if_open.ensures.sound)
    c.collect.new.self.limits (g.D.Shown.view c.collect.new.self.device) c.collect.new.self.tables (c.collect.ensures.limits ∙ c.cancel_if_open.ensures.limits) c.collect.ensures.sound c.collect.ensures.collects

pub invariant_of-self : goal.invariant_of-self
invariant_of-self g c = record {
  takes_buffers = c.self.invariant.takes_buffers;
  locations = c.self.invariant.locations;
  vacant = vacant_through (g.D.Shown.view c.self.inside.parts.device) (g.D.Shown.view c.cancel_if_open.new.self.device) (g.D.Shown.view c.collect.new.self.device) (same_unless_marked _ _ _ _ _ c.cancel_if_open.ensures.cancels) c.collect.ensures.collects.same_rooms c.self.invariant.vacant;
  kept = (kept g c).1;
}

pub returns : goal.returns
returns g c = record { right = (kept g c).0 }
