-- The room is reserved for the request, and the packet has the next number.
use Rattle.device.specs.View.{packet_of, request_at}
use Rattle.part_tests.proofs.Known.{keeps_reserves, known_on, known_submits}
use Rattle.part_tests.proofs.Reserved.{ready_at}
use Rattle.part_tests.proofs.session.Session.submit.Goals as goal

pub submit-requires-clause-ready : goal.submit-requires-clause-ready
submit-requires-clause-ready g c =
    ready_at (g.D.Shown.view c.reserve.new.self).rooms c.in_ok-room.room.spot c.args.request.now c.in_ok-room.ensures.reserved.room.is

pub invariant_of-self-2 : goal.invariant_of-self-2
invariant_of-self-2 g c =
    let s = c.self.inside in
    let made = g.D.Shown.view c.reserve.new.self in
    record {
      form = c.self.invariant.form;
      locations = c.self.invariant.locations;
      known = known_submits made (g.D.Shown.view c.submit.new.self) (packet_of c.in_ok-irp.irp.value c.in_ok-room.room.spot)
          (request_at made.rooms c.in_ok-room.room.spot) c.in_ok-irp.irp.value.payload s.partitions.now s.next s.paused s.removed
          c.in_ok-irp.ensures.number_is c.submit.ensures.submits
          (known_on (g.D.Shown.view s.device) made s.partitions.now s.next s.paused s.removed
          (keeps_reserves (g.D.Shown.view s.device) made c.in_ok-room.ensures.reserved.reserves) c.self.invariant.known);
    }
