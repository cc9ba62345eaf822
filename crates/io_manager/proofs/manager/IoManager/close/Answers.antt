use Rattle.io_manager.proofs.Common.{◌≡◌, true, subst, sym, ◌∙◌, is_some, Limits, Reply, Tables, partition_of, IsRight, CloseReplies}
use Rattle.io_manager.specs.declared.Reply.TheVariants.{Ok as OkReply}
use Rattle.io_manager.specs.inside.Sound.{IsSound, view_of, ManagerKept}
use Rattle.io_manager.proofs.Vacant.{vacant_through}
use Rattle.io_manager.proofs.Chained.{open_in}
use Rattle.io_manager.proofs.Cancelled.{none_of, some_of, closed_sound, close_kept, close_refused}
use Rattle.io_manager.proofs.manager.IoManager.close.Goals as goal

pub returns-then-is_none : goal.returns-then-is_none
returns-then-is_none g c = record {
  right =
      subst (λ (reply : Reply). IsRight (CloseReplies c.args.self.now c.args.handle reply c.args.self.now) c.args.self.now c.args.self.now) (sym c.refused_alone.ensures)
      (close_refused c.self.inside.parts.limits (g.D.Shown.view c.self.inside.parts.device) c.self.inside.parts.tables c.args.self.now c.self.invariant.kept c.self.view_is c.requires.taken c.args.handle (none_of _ _ _ c.is_none.ensures c.if-is_none.true c.partition_of.ensures));
}

pub collect-requires-clause-sound : goal.collect-requires-clause-sound
collect-requires-clause-sound g c =
    closed_sound c.cancel_all_of.new.self.limits (g.D.Shown.view c.cancel_all_of.new.self.device) c.cancel_all_of.new.self.tables c.close_handle.new.self c.args.handle.slot c.args.handle.number c.cancel_all_of.ensures.sound
    (open_in c.cancel_all_of.new.self.tables.handles c.args.handle
    (subst (λ (t : Tables). is_some (partition_of t.handles.slots c.args.handle) ≡ true) (sym c.cancel_all_of.ensures.cancels.after) (some_of _ _ _ c.is_none.ensures c.if-is_none.false c.partition_of.ensures)))
    c.cancel_all_of.ensures.none_left c.close_handle.ensures

kept : (g : _) (c : goal.After-collect g)
    → IsRight (CloseReplies c.args.self.now c.args.handle OkReply (view_of c.collect.new.self.limits (g.D.Shown.view c.collect.new.self.device) c.collect.new.self.tables)) c.args.self.now (view_of c.collect.new.self.limits (g.D.Shown.view c.collect.new.self.device) c.collect.new.self.tables)
    × ManagerKept c.collect.new.self.limits (g.D.Shown.view c.collect.new.self.device) c.collect.new.self.tables
kept g c =
    close_kept c.self.inside.parts.limits (g.D.Shown.view c.self.inside.parts.device) c.self.inside.parts.tables c.args.self.now c.self.invariant.kept c.self.view_is c.requires.taken c.args.handle
    (g.D.Shown.view c.cancel_all_of.new.self.device) c.cancel_all_of.new.self.tables (some_of _ _ _ c.is_none.ensures c.if-is_none.false c.partition_of.ensures) c.cancel_all_of.ensures.cancels
    (subst (λ (l : Limits). IsSound l (g.D.Shown.view c.cancel_all_of.new.self.device) c.cancel_all_of.new.self.tables) c.cancel_all_of.ensures.limits c.cancel_all_of.ensures.sound)
    c.cancel_all_of.ensures.none_left c.close_handle.new.self c.close_handle.ensures
    c.collect.new.self.limits (g.D.Shown.view c.collect.new.self.device) c.collect.new.self.tables (c.collect.ensures.limits ∙ c.cancel_all_of.ensures.limits) c.collect.ensures.sound c.collect.ensures.collects

pub invariant_of-self : goal.invariant_of-self
invariant_of-self g c = record {
  takes_buffers = c.self.invariant.takes_buffers;
  locations = c.self.invariant.locations;
  vacant = vacant_through (g.D.Shown.view c.self.inside.parts.device) (g.D.Shown.view c.cancel_all_of.new.self.device) (g.D.Shown.view c.collect.new.self.device) c.cancel_all_of.ensures.cancels.beside.same_rooms c.collect.ensures.collects.same_rooms c.self.invariant.vacant;
  kept = (kept g c).1;
}

pub returns : goal.returns
returns g c = record { right = (kept g c).0 }
