use Rattle.std.proofs.Common.{◌≡◌, ◌≢◌, ◌<◌, ◌≤◌, ℕ, arith, None, Some, ap, sym, ◌∙◌, subst}
use Rattle.io_manager.proofs.Common.{slab_len, Write, IsBounded, room_at, whole_for, SetsRoom, ReservesNear, Limits, ManagerView, call_on, IsRight, CallReplies}
use Rattle.machine.specs.declared.Request.{Request}
use Rattle.io_manager.specs.declared.Reply.TheVariants.{Request as Requested}
use Rattle.io_manager.specs.inside.Admitting.{request_of, HasLabelBytes, IsSent, IsAdmissible}
use Rattle.io_manager.specs.inside.Sound.{IsSound, ManagerKept, view_of}
use Rattle.io_manager.proofs.Vacant.{vacant_still, sent_vacant}
use Rattle.io_manager.proofs.Fitting.{is_bounded, free_place}
use Rattle.io_manager.proofs.Calling.{reserved_sound, turned_away_kept, admitted_kept}
use Rattle.io_manager.proofs.manager.IoManager.admit.Goals as goal

pub reserve-requires-clause-bounded : goal.reserve-requires-clause-bounded
reserve-requires-clause-bounded g c =
    subst (λ (r : Request). IsBounded (g.D.Shown.view c.self.inside.parts.device).rules r) (sym c.request_below-below.ensures)
    (is_bounded c.self.inside.parts.limits (g.D.Shown.view c.self.inside.parts.device) c.self.inside.parts.tables c.args.request c.self.invariant.kept.sound
    (subst (λ (v : ManagerView). IsAdmissible v c.args.request) (sym c.self.view_is) c.requires.admissible))

turned_away : (g : _) (c : goal.After-drop-request g)
    → IsRight (CallReplies c.args.self.now c.args.handle (call_on c.args.self.now c.args.handle c.args.request.kind c.args.request.offset c.args.buffer c.args.request.through) c.args.buffer c.refused.result
    (view_of c.reserve.new.self.limits (g.D.Shown.view c.reserve.new.self.device) c.reserve.new.self.tables)) c.args.self.now
    (view_of c.reserve.new.self.limits (g.D.Shown.view c.reserve.new.self.device) c.reserve.new.self.tables)
    × ManagerKept c.reserve.new.self.limits (g.D.Shown.view c.reserve.new.self.device) c.reserve.new.self.tables
turned_away g c =
    turned_away_kept c.self.inside.parts.limits (g.D.Shown.view c.self.inside.parts.device) c.self.inside.parts.tables c.args.self.now c.args.handle c.args.request c.args.buffer
    c.self.invariant.kept c.self.view_is c.requires.admissible c.requires.taken c.requires.is_call
    c.reserve.new.self.limits (g.D.Shown.view c.reserve.new.self.device) c.reserve.new.self.tables c.refused.result c.reserve.ensures.limits c.in_default.ensures.refused.reserves
    (subst (λ (r : Request). ReservesNear (g.D.Shown.view c.self.inside.parts.device) r (g.D.Shown.view c.reserve.new.self.device)) c.request_below-below.ensures c.reserve.ensures.near)
    (λ other. c.reserve.ensures.unless_write (subst (λ (r : Request). r.kind ≢ Write) (sym c.request_below-below.ensures) other)) c.reserve.ensures.tables c.refused.ensures

pub invariant_of-self : goal.invariant_of-self
invariant_of-self g c = record {
  takes_buffers = c.self.invariant.takes_buffers;
  locations = c.self.invariant.locations;
  vacant = vacant_still (g.D.Shown.view c.self.inside.parts.device) (g.D.Shown.view c.reserve.new.self.device) c.in_default.ensures.refused.room c.self.invariant.vacant;
  kept = (turned_away g c).1;
}

pub returns-in_default : goal.returns-in_default
returns-in_default g c = record { right = (turned_away g c).0 }

pub reserve-requires-clause-few : goal.reserve-requires-clause-few
reserve-requires-clause-few g c =
    let free : slab_len c.self.inside.parts.tables.requests < c.self.inside.parts.limits.open_requests =
    free_place c.self.inside.parts.limits (g.D.Shown.view c.self.inside.parts.device) c.self.inside.parts.tables c.args.request c.self.invariant.kept.sound
    (subst (λ (v : ManagerView). IsAdmissible v c.args.request) (sym c.self.view_is) c.requires.admissible) in
    let most : c.self.inside.parts.limits.open_requests ≤ 64 = c.self.invariant.kept.sound.fits.some_open.1 in
    omega arith

pub send-id-requires-clause-asks : goal.send-id-requires-clause-asks
send-id-requires-clause-asks g c =
    subst (λ (limits : Limits). c.in-Ok.prepared.below ≡ request_of limits.sector_size c.args.request) (sym c.reserve.ensures.limits) (c.in-Ok.ensures.asks ∙ c.request_below-below.ensures)

pub send-id-requires-clause-room : goal.send-id-requires-clause-room
send-id-requires-clause-room g c =
    subst (λ (n : ℕ). room_at (g.D.Shown.view c.reserve.new.self.device).rooms c.in-Ok.prepared.room.spot ≡ Some (whole_for (request_of n c.args.request))) (sym (ap (λ (l : Limits). l.sector_size) c.reserve.ensures.limits))
    (subst (λ (r : Request). room_at (g.D.Shown.view c.reserve.new.self.device).rooms c.in-Ok.prepared.room.spot ≡ Some (whole_for r)) c.request_below-below.ensures c.in-Ok.ensures.reserved.room.is)

pub send-id-requires-clause-sound : goal.send-id-requires-clause-sound
send-id-requires-clause-sound g c =
    subst (λ (limits : Limits). IsSound limits (g.D.Shown.view c.reserve.new.self.device) c.reserve.new.self.tables) (sym c.reserve.ensures.limits)
    (reserved_sound c.self.inside.parts.limits (g.D.Shown.view c.self.inside.parts.device) c.self.inside.parts.tables (g.D.Shown.view c.reserve.new.self.device) c.reserve.new.self.tables c.self.invariant.kept.sound
    c.in-Ok.ensures.reserved.reserves c.reserve.ensures.tables)

reserved_for : (g : _) (c : goal.After-collect g)
    → SetsRoom (g.D.Shown.view c.self.inside.parts.device).rooms c.in-Ok.prepared.room.spot None (Some (whole_for (request_of c.self.inside.parts.limits.sector_size c.args.request))) (g.D.Shown.view c.reserve.new.self.device).rooms
reserved_for g c =
    subst (λ (r : Request). SetsRoom (g.D.Shown.view c.self.inside.parts.device).rooms c.in-Ok.prepared.room.spot None (Some (whole_for r)) (g.D.Shown.view c.reserve.new.self.device).rooms) c.request_below-below.ensures
    c.in-Ok.ensures.reserved.room

made : (g : _) (c : goal.After-collect g) → HasLabelBytes c.reserve.new.self.tables.labels.keeps c.reserve.new.self.tables.labels.keeps_bytes c.args.request.kind c.args.buffer c.in-Ok.prepared.copies
made g c = subst (λ (r : Request). HasLabelBytes c.reserve.new.self.tables.labels.keeps c.reserve.new.self.tables.labels.keeps_bytes r.kind c.args.buffer c.in-Ok.prepared.copies) c.request_below-below.ensures c.in-Ok.ensures.copies

sent : (g : _) (c : goal.After-collect g)
    → IsSent (g.D.Shown.view c.reserve.new.self.device) c.reserve.new.self.tables c.args.handle c.args.request (request_of c.self.inside.parts.limits.sector_size c.args.request) c.in-Ok.prepared.copies c.args.buffer c.in-Ok.prepared.room.spot c.send-id.result.slot
    (g.D.Shown.view c.send-id.new.self.device) c.send-id.new.self.tables
sent g c =
    subst (λ (limits : Limits). IsSent (g.D.Shown.view c.reserve.new.self.device) c.reserve.new.self.tables c.args.handle c.args.request (request_of limits.sector_size c.args.request) c.in-Ok.prepared.copies c.args.buffer c.in-Ok.prepared.room.spot c.send-id.result.slot
    (g.D.Shown.view c.send-id.new.self.device) c.send-id.new.self.tables)
    c.reserve.ensures.limits c.send-id.ensures.sent

admitted : (g : _) (c : goal.After-collect g)
    → IsRight (CallReplies c.args.self.now c.args.handle (call_on c.args.self.now c.args.handle c.args.request.kind c.args.request.offset c.args.buffer c.args.request.through) c.args.buffer (Requested c.send-id.result)
    (view_of c.collect.new.self.limits (g.D.Shown.view c.collect.new.self.device) c.collect.new.self.tables)) c.args.self.now
    (view_of c.collect.new.self.limits (g.D.Shown.view c.collect.new.self.device) c.collect.new.self.tables)
    × ManagerKept c.collect.new.self.limits (g.D.Shown.view c.collect.new.self.device) c.collect.new.self.tables
admitted g c =
    admitted_kept c.self.inside.parts.limits (g.D.Shown.view c.self.inside.parts.device) c.self.inside.parts.tables c.args.self.now c.args.handle c.args.request c.args.buffer
    c.self.invariant.kept c.self.view_is c.requires.admissible c.requires.taken c.requires.is_call
    (g.D.Shown.view c.reserve.new.self.device) c.reserve.new.self.tables c.in-Ok.prepared.copies c.in-Ok.prepared.room.spot (g.D.Shown.view c.send-id.new.self.device) c.send-id.new.self.tables
    c.collect.new.self.limits (g.D.Shown.view c.collect.new.self.device) c.collect.new.self.tables c.send-id.result
    c.in-Ok.ensures.reserved.reserves
    (subst (λ (r : Request). ReservesNear (g.D.Shown.view c.self.inside.parts.device) r (g.D.Shown.view c.reserve.new.self.device)) c.request_below-below.ensures c.reserve.ensures.near)
    (λ other. c.reserve.ensures.unless_write (subst (λ (r : Request). r.kind ≢ Write) (sym c.request_below-below.ensures) other)) c.reserve.ensures.tables
    (made g c) (sent g c) c.send-id.ensures.number
    (c.collect.ensures.limits ∙ c.send-id.ensures.limits ∙ c.reserve.ensures.limits) c.collect.ensures.sound c.collect.ensures.collects

pub invariant_of-self-2 : goal.invariant_of-self-2
invariant_of-self-2 g c = record {
  takes_buffers = c.self.invariant.takes_buffers;
  locations = c.self.invariant.locations;
  vacant =
      vacant_still (g.D.Shown.view c.send-id.new.self.device) (g.D.Shown.view c.collect.new.self.device) c.collect.ensures.collects.same_rooms
      (sent_vacant (g.D.Shown.view c.self.inside.parts.device) (g.D.Shown.view c.reserve.new.self.device) (g.D.Shown.view c.send-id.new.self.device) c.in-Ok.prepared.room.spot (request_of c.self.inside.parts.limits.sector_size c.args.request)
      (reserved_for g c) (subst (λ (spot : ℕ). SetsRoom (g.D.Shown.view c.reserve.new.self.device).rooms spot (Some (whole_for (request_of c.self.inside.parts.limits.sector_size c.args.request))) None (g.D.Shown.view c.send-id.new.self.device).rooms) (sent g c).sends.is_spot (sent g c).sends.submits.room) c.self.invariant.vacant);
  kept = (admitted g c).1;
}

pub returns : goal.returns
returns g c = record { right = (admitted g c).0 }
