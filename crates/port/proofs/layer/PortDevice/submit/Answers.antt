use Rattle.std.proofs.Common.{subst}
use Rattle.port.specs.inside.TableView.{books_of}
use Rattle.port.specs.Shown.{reserved_of, view_of}
use Rattle.device.specs.View.{DeviceView, request_at, whole_for, packet_of}
use Rattle.device.specs.Served.{Submits}
use Rattle.port.proofs.Submitting.{queued_kept, queued_submits}
use Rattle.port.proofs.Sound.{slot_at, waiting_away, may_queue, hand_queued, sound_on}
use Rattle.port.proofs.Seeing.{shown_is}
use Rattle.port.proofs.layer.PortDevice.submit.Goals as goal

pub push-requires-clause-reserved : goal.push-requires-clause-reserved
push-requires-clause-reserved g c =
    (_, (slot_at (books_of c.self.inside.parts.queues) (g.A.Adapter.view c.self.inside.parts.adapter) _ (shown_is c.self.view_is) c.args.room.spot (whole_for (request_at c.args.self.now.shown.rooms c.args.room.spot)) c.requires.ready))

pub push-requires-clause-apart : goal.push-requires-clause-apart
push-requires-clause-apart g c =
    waiting_away (books_of c.self.inside.parts.queues) (g.A.Adapter.view c.self.inside.parts.adapter) _ c.args.room.spot (request_at c.args.self.now.shown.rooms c.args.room.spot) (slot_at (books_of c.self.inside.parts.queues) (g.A.Adapter.view c.self.inside.parts.adapter) _ (shown_is c.self.view_is) c.args.room.spot (whole_for (request_at c.args.self.now.shown.rooms c.args.room.spot)) c.requires.ready) c.self.invariant.kept

pub start_waiting-requires : goal.start_waiting-requires
start_waiting-requires g c =
    ((reserved_of (books_of c.push.new.self).rooms), (queued_kept (books_of c.self.inside.parts.queues) (g.A.Adapter.view c.self.inside.parts.adapter) c.args.irp (request_at c.args.self.now.shown.rooms c.args.room.spot) c.args.room.spot (books_of c.push.new.self) (c.push.ensures (request_at c.args.self.now.shown.rooms c.args.room.spot) (slot_at (books_of c.self.inside.parts.queues) (g.A.Adapter.view c.self.inside.parts.adapter) _ (shown_is c.self.view_is) c.args.room.spot (whole_for (request_at c.args.self.now.shown.rooms c.args.room.spot)) c.requires.ready)) (may_queue (books_of c.self.inside.parts.queues) (g.A.Adapter.view c.self.inside.parts.adapter) _ (shown_is c.self.view_is) c.args.irp (request_at c.args.self.now.shown.rooms c.args.room.spot) c.requires.not_removing c.requires.number c.requires.few c.requires.not_cancelled c.requires.carries) (reserved_of (books_of c.push.new.self).rooms) ((hand_queued (books_of c.self.inside.parts.queues) (books_of c.push.new.self) (g.A.Adapter.view c.self.inside.parts.adapter) c.args.irp (request_at c.args.self.now.shown.rooms c.args.room.spot) c.args.room.spot (c.push.ensures (request_at c.args.self.now.shown.rooms c.args.room.spot) (slot_at (books_of c.self.inside.parts.queues) (g.A.Adapter.view c.self.inside.parts.adapter) _ (shown_is c.self.view_is) c.args.room.spot (whole_for (request_at c.args.self.now.shown.rooms c.args.room.spot)) c.requires.ready)) c.self.invariant)).kept))

pub invariant_of-self : goal.invariant_of-self
invariant_of-self g c =
    sound_on (books_of c.push.new.self) (books_of c.start_waiting.new.self.queues) (g.A.Adapter.view c.self.inside.parts.adapter) (g.A.Adapter.view c.start_waiting.new.self.adapter) c.start_waiting.ensures.releases.moves.same_rooms (c.start_waiting.ensures.rooms (reserved_of (books_of c.push.new.self).rooms) (queued_kept (books_of c.self.inside.parts.queues) (g.A.Adapter.view c.self.inside.parts.adapter) c.args.irp (request_at c.args.self.now.shown.rooms c.args.room.spot) c.args.room.spot (books_of c.push.new.self) (c.push.ensures (request_at c.args.self.now.shown.rooms c.args.room.spot) (slot_at (books_of c.self.inside.parts.queues) (g.A.Adapter.view c.self.inside.parts.adapter) _ (shown_is c.self.view_is) c.args.room.spot (whole_for (request_at c.args.self.now.shown.rooms c.args.room.spot)) c.requires.ready)) (may_queue (books_of c.self.inside.parts.queues) (g.A.Adapter.view c.self.inside.parts.adapter) _ (shown_is c.self.view_is) c.args.irp (request_at c.args.self.now.shown.rooms c.args.room.spot) c.requires.not_removing c.requires.number c.requires.few c.requires.not_cancelled c.requires.carries) (reserved_of (books_of c.push.new.self).rooms) ((hand_queued (books_of c.self.inside.parts.queues) (books_of c.push.new.self) (g.A.Adapter.view c.self.inside.parts.adapter) c.args.irp (request_at c.args.self.now.shown.rooms c.args.room.spot) c.args.room.spot (c.push.ensures (request_at c.args.self.now.shown.rooms c.args.room.spot) (slot_at (books_of c.self.inside.parts.queues) (g.A.Adapter.view c.self.inside.parts.adapter) _ (shown_is c.self.view_is) c.args.room.spot (whole_for (request_at c.args.self.now.shown.rooms c.args.room.spot)) c.requires.ready)) c.self.invariant)).kept))

pub returns : goal.returns
returns g c =
    record {
      submits = subst (λ (x : DeviceView). Submits x (packet_of c.args.irp.value c.args.room.spot) (request_at c.args.self.now.shown.rooms c.args.room.spot) c.args.irp.value.payload (view_of (books_of c.start_waiting.new.self.queues) (g.A.Adapter.view c.start_waiting.new.self.adapter))) (shown_is c.self.view_is)
          (queued_submits (books_of c.self.inside.parts.queues) (g.A.Adapter.view c.self.inside.parts.adapter) c.args.irp (request_at c.args.self.now.shown.rooms c.args.room.spot) c.args.room.spot (reserved_of (books_of c.push.new.self).rooms) (books_of c.push.new.self) _ _ (c.push.ensures (request_at c.args.self.now.shown.rooms c.args.room.spot) (slot_at (books_of c.self.inside.parts.queues) (g.A.Adapter.view c.self.inside.parts.adapter) _ (shown_is c.self.view_is) c.args.room.spot (whole_for (request_at c.args.self.now.shown.rooms c.args.room.spot)) c.requires.ready)) (may_queue (books_of c.self.inside.parts.queues) (g.A.Adapter.view c.self.inside.parts.adapter) _ (shown_is c.self.view_is) c.args.irp (request_at c.args.self.now.shown.rooms c.args.room.spot) c.requires.not_removing c.requires.number c.requires.few c.requires.not_cancelled c.requires.carries) (hand_queued (books_of c.self.inside.parts.queues) (books_of c.push.new.self) (g.A.Adapter.view c.self.inside.parts.adapter) c.args.irp (request_at c.args.self.now.shown.rooms c.args.room.spot) c.args.room.spot (c.push.ensures (request_at c.args.self.now.shown.rooms c.args.room.spot) (slot_at (books_of c.self.inside.parts.queues) (g.A.Adapter.view c.self.inside.parts.adapter) _ (shown_is c.self.view_is) c.args.room.spot (whole_for (request_at c.args.self.now.shown.rooms c.args.room.spot)) c.requires.ready)) c.self.invariant) c.start_waiting.ensures.releases);
    }
