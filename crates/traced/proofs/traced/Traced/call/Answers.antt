use Rattle.std.proofs.Common.{rules}
use Rattle.traced.proofs.Booking.{sound_with_room, sound_made_ready}
use Rattle.traced.proofs.traced.Traced.call.Goals as goal

pub invariant_of-self : goal.invariant_of-self
invariant_of-self g c =
    let room = c.make_room.ensures in
    record {
      sound = sound_with_room _ _ _ _ _ c.self.inside.log _ c.make_room.new.log _ _ c.self.invariant.sound room.kept room.no_less;
      tally = search rules;
      clients = c.self.invariant.clients;
      same_sizes = c.self.invariant.same_sizes;
      sizes = c.self.invariant.sizes;
    }

pub invariant_of-self-then-is_err-2 : goal.invariant_of-self-then-is_err-2
invariant_of-self-then-is_err-2 g c =
    let room = c.make_room.ensures in
    record {
      sound = sound_made_ready _ _ _ _ _ c.self.inside.log _ c.make_room.new.log c.make_ready.new.self _ _ c.self.invariant.sound room.kept room.no_less c.make_ready.ensures.kept;
      tally = search rules;
      clients = c.self.invariant.clients;
      same_sizes = c.self.invariant.same_sizes;
      sizes = c.self.invariant.sizes;
    }

pub carry-reply-requires-clause-sound : goal.carry-reply-requires-clause-sound
carry-reply-requires-clause-sound g c =
    let room = c.make_room.ensures in
    sound_made_ready _ _ _ _ _ c.self.inside.log _ c.make_room.new.log c.make_ready.new.self _ _ c.self.invariant.sound room.kept room.no_less c.make_ready.ensures.kept
