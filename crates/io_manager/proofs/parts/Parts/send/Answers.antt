use Rattle.std.proofs.Common.{◌≡◌, ◌<◌, refl, ◌-◌, arith, take, List, Bool, false, length, ap, sym, ◌∙◌, subst}
use Rattle.io_manager.proofs.Common.{slab_len, StackLocation, Payload, Carries, AsksInLocation, transfer_length, packet_of, payload_bytes, request_at, Submits}
use Rattle.machine.specs.declared.Request.{Request}
use Rattle.io_manager.specs.inside.Admitting.{request_of, SendsDown}
use Rattle.io_manager.proofs.Fitting.{transfer_is, free_place}
use Rattle.io_manager.proofs.Vacant.{asked_at, ready_at}
use Rattle.io_manager.proofs.Asking.{asks_in_location}
use Rattle.io_manager.proofs.Chained.{open_in}
use Rattle.io_manager.proofs.Admitted.{admitted_sound}
use Rattle.io_manager.proofs.parts.Parts.send.Goals as goal

pub submit-requires-clause-ready : goal.submit-requires-clause-ready
submit-requires-clause-ready g c = ready_at (g.D.Shown.view c.args.self.now.device).rooms c.args.prepared.room.spot _ c.requires.room

pub submit-requires-clause-carries : goal.submit-requires-clause-carries
submit-requires-clause-carries g c =
    let asked : transfer_length (g.D.Shown.view c.args.self.now.device).rules (request_of c.args.self.now.limits.sector_size c.args.request) ≡ length c.args.buffer =
    transfer_is c.args.self.now.limits (g.D.Shown.view c.args.self.now.device) c.args.self.now.tables c.args.request c.requires.sound c.requires.admissible ∙ c.requires.length in
    subst (λ (b : Bool). Carries b (g.D.Shown.view c.args.self.now.device).rules (request_at (g.D.Shown.view c.args.self.now.device).rooms c.args.prepared.room.spot) c.ready_packet.new.irp.payload) (sym c.requires.takes_buffers)
    (subst (λ (p : Payload). Carries false (g.D.Shown.view c.args.self.now.device).rules (request_at (g.D.Shown.view c.args.self.now.device).rooms c.args.prepared.room.spot) p) (sym c.ready_packet.ensures.payload)
    (sym asked ∙ ap (transfer_length (g.D.Shown.view c.args.self.now.device).rules) (sym (asked_at (g.D.Shown.view c.args.self.now.device).rooms c.args.prepared.room.spot _ c.requires.room))))

pub submit-requires-clause-own_location : goal.submit-requires-clause-own_location
submit-requires-clause-own_location g c =
    subst (λ (b : Bool). AsksInLocation b (request_at (g.D.Shown.view c.args.self.now.device).rooms c.args.prepared.room.spot) c.ready_packet.new.irp) (sym c.requires.takes_buffers)
    (subst (λ (r : Request). AsksInLocation false r c.ready_packet.new.irp) (c.requires.asks ∙ sym (asked_at (g.D.Shown.view c.args.self.now.device).rooms c.args.prepared.room.spot _ c.requires.room))
    (asks_in_location c.args.prepared.below c.ready_packet.new.irp c.ready_packet.ensures.top.location))

pub admit-slot-requires-clause-free_slot : goal.admit-slot-requires-clause-free_slot
admit-slot-requires-clause-free_slot g c =
    let free : slab_len c.args.self.now.tables.requests < c.args.self.now.limits.open_requests =
    free_place c.args.self.now.limits (g.D.Shown.view c.args.self.now.device) c.args.self.now.tables c.args.request c.requires.sound c.requires.admissible in
    let slots : c.args.self.now.tables.requests.capacity ≡ c.args.self.now.limits.open_requests = c.requires.sound.places.requests in
    omega (arith, free, slots)

sent : (g : _) (c : goal.After-admit-slot g)
    → SendsDown (g.D.Shown.view c.args.self.now.device) c.args.self.now.tables.next_request c.args.prepared.room.spot (request_of c.args.self.now.limits.sector_size c.args.request) c.args.buffer (g.D.Shown.view c.submit.new.self)
sent g c = record {
  packet = packet_of c.ready_packet.new.irp c.args.prepared.room.spot;
  payload = c.ready_packet.new.irp.payload;
  is_number = c.ready_packet.ensures.top.is_number;
  is_spot = refl;
  topmost = ap (λ (xs : List StackLocation). take (length xs - 1) xs) c.ready_packet.ensures.top.location;
  brings = ap payload_bytes c.ready_packet.ensures.payload;
  submits = subst (λ (r : Request). Submits (g.D.Shown.view c.args.self.now.device) (packet_of c.ready_packet.new.irp c.args.prepared.room.spot) r c.ready_packet.new.irp.payload (g.D.Shown.view c.submit.new.self)) (asked_at (g.D.Shown.view c.args.self.now.device).rooms c.args.prepared.room.spot _ c.requires.room) c.submit.ensures.submits;
}

pub returns-clause-sent : goal.returns-clause-sent
returns-clause-sent g c = record { admits = c.admit-slot.ensures; sends = sent g c }

pub returns-clause-sound : goal.returns-clause-sound
returns-clause-sound g c =
    admitted_sound c.args.self.now.limits (g.D.Shown.view c.args.self.now.device) c.args.self.now.tables c.args.request c.requires.sound c.requires.admissible c.args.handle c.args.prepared.copies c.args.prepared.room.spot c.admit-slot.result c.admit-slot.new.self c.args.buffer (g.D.Shown.view c.submit.new.self)
    c.shows_order.ensures.order.distinct (open_in c.args.self.now.tables.handles c.args.handle c.requires.open) c.requires.copies c.requires.length c.requires.place c.admit-slot.ensures (sent g c)
