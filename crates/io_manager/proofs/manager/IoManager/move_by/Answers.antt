use Rattle.std.proofs.Common.{◌≡◌, ◌∙◌, Some, sym, subst}
use Rattle.io_manager.proofs.Common.{event_of, next, Tables, Reply, IsRight, RequestReplies, label_of, view_of, ManagerKept}
use Rattle.io_manager.specs.declared.Reply.TheVariants.{Ok as OkReply}
use Rattle.io_manager.proofs.Vacant.{vacant_through}
use Rattle.io_manager.proofs.Removing.{MovedTo, invalid_of, valid_of, invalid_right, may_do, unmoved_right, moved_sound, moved_kept, does_rooms}
use Rattle.io_manager.proofs.manager.IoManager.move_by.Goals as goal

pub returns-in_default : goal.returns-in_default
returns-in_default g c = record {
  right =
      subst (λ (reply : Reply). IsRight (RequestReplies c.args.request c.args.self.now reply c.args.self.now) c.args.self.now c.args.self.now) (sym c.refused_alone.ensures)
      (invalid_right c.self.inside.parts.limits (g.D.Shown.view c.self.inside.parts.device) c.self.inside.parts.tables c.args.self.now c.self.invariant.kept c.self.view_is c.requires.taken
      c.args.request (invalid_of _ _ _ c.next.ensures c.in_default.is));
}

pub returns-in_default-label_of : goal.returns-in_default-label_of
returns-in_default-label_of g c = record {
  right =
      unmoved_right c.self.inside.parts.limits (g.D.Shown.view c.self.inside.parts.device) c.self.inside.parts.tables c.args.self.now c.self.invariant.kept c.self.view_is c.requires.taken
      c.args.request (sym c.label_of.ensures ∙ c.in_default-label_of.is);
}

pub pass_down-requires : goal.pass_down-requires
pass_down-requires g c =
    let tables : Tables = c.self.inside.parts.tables in
    let valid : next (event_of c.args.request) tables.state ≡ Some c.in-Ok.next = valid_of _ _ _ c.next.ensures c.in-Ok.is in
    let told : label_of c.args.request tables.state ≡ Some c.in-Some.label = sym c.label_of.ensures ∙ c.in-Some.is in
    may_do c.self.inside.parts.limits (g.D.Shown.view c.self.inside.parts.device) tables c.args.self.now c.self.invariant.kept c.self.view_is c.requires.taken
    c.args.request c.in-Ok.next c.in-Some.label valid told

pub collect-requires-clause-sound : goal.collect-requires-clause-sound
collect-requires-clause-sound g c =
    let tables : Tables = c.self.inside.parts.tables in
    let valid : next (event_of c.args.request) tables.state ≡ Some c.in-Ok.next = valid_of _ _ _ c.next.ensures c.in-Ok.is in
    let told : label_of c.args.request tables.state ≡ Some c.in-Some.label = sym c.label_of.ensures ∙ c.in-Some.is in
    let moved : MovedTo tables c.in-Ok.next c.in-Some.label c.move_to.new.self =
    record { tells = c.move_to.ensures.tells; label_places = c.move_to.ensures.label_places; after = c.move_to.ensures.after } in
    moved_sound c.self.inside.parts.limits (g.D.Shown.view c.self.inside.parts.device) tables c.args.self.now c.self.invariant.kept c.self.view_is c.requires.taken
    c.args.request c.in-Ok.next c.in-Some.label (g.D.Shown.view c.pass_down.new.device) c.move_to.new.self valid told c.pass_down.ensures moved

kept : (g : _) (c : goal.After-collect g)
    → IsRight (RequestReplies c.args.request c.args.self.now OkReply (view_of c.collect.new.self.limits (g.D.Shown.view c.collect.new.self.device) c.collect.new.self.tables)) c.args.self.now
    (view_of c.collect.new.self.limits (g.D.Shown.view c.collect.new.self.device) c.collect.new.self.tables)
    × ManagerKept c.collect.new.self.limits (g.D.Shown.view c.collect.new.self.device) c.collect.new.self.tables
kept g c =
    let tables : Tables = c.self.inside.parts.tables in
    let valid : next (event_of c.args.request) tables.state ≡ Some c.in-Ok.next = valid_of _ _ _ c.next.ensures c.in-Ok.is in
    let told : label_of c.args.request tables.state ≡ Some c.in-Some.label = sym c.label_of.ensures ∙ c.in-Some.is in
    let moved : MovedTo tables c.in-Ok.next c.in-Some.label c.move_to.new.self =
    record { tells = c.move_to.ensures.tells; label_places = c.move_to.ensures.label_places; after = c.move_to.ensures.after } in
    moved_kept c.self.inside.parts.limits (g.D.Shown.view c.self.inside.parts.device) tables c.args.self.now c.self.invariant.kept c.self.view_is c.requires.taken
    c.args.request c.in-Ok.next c.in-Some.label (g.D.Shown.view c.pass_down.new.device) c.move_to.new.self valid told c.pass_down.ensures moved
    c.collect.new.self.limits (g.D.Shown.view c.collect.new.self.device) c.collect.new.self.tables
    c.collect.ensures.limits c.collect.ensures.sound c.collect.ensures.collects

pub invariant_of-self : goal.invariant_of-self
invariant_of-self g c = record {
  takes_buffers = c.self.invariant.takes_buffers;
  locations = c.self.invariant.locations;
  vacant =
      vacant_through (g.D.Shown.view c.self.inside.parts.device) (g.D.Shown.view c.pass_down.new.device) (g.D.Shown.view c.collect.new.self.device)
      (does_rooms c.args.request (g.D.Shown.view c.self.inside.parts.device) (g.D.Shown.view c.pass_down.new.device) c.pass_down.ensures) c.collect.ensures.collects.same_rooms c.self.invariant.vacant;
  kept = (kept g c).1;
}

pub returns : goal.returns
returns g c = record { right = (kept g c).0 }
