use Rattle.std.proofs.Common.{rules}
use Rattle.traced.proofs.Booking.{sound_with_room}
use Rattle.traced.proofs.traced.Traced.serve.Goals as goal
use Rattle.traced.proofs.traced.Traced.serve.Goals.{else-matches-via-then-matches+else-is_err, else-matches-via-else-matches}

pub invariant_of-self : goal.invariant_of-self
invariant_of-self g c =
    let room = c.make_room.ensures in
    record {
      sound = sound_with_room _ _ _ _ _ c.self.inside.log _ c.make_room.new.log _ _ c.self.invariant.sound room.kept room.no_less;
      tally = search rules;
      clients = c.self.invariant.clients;
      same_sizes = c.self.invariant.same_sizes;
      sizes = c.self.invariant.sizes;
    }

pub carry-requires-clause-sound : goal.carry-requires-clause-sound
carry-requires-clause-sound g c =
    elim c.else-matches.branch [
      | else-matches-via-then-matches+else-is_err w ↦ rw w.self-inside-is (
          sound_with_room _ _ _ _ _ c.self.inside.log _ w.make_room.new.log _ _ c.self.invariant.sound w.make_room.ensures.kept w.make_room.ensures.no_less
          )
      | else-matches-via-else-matches w ↦ rw w.self-inside-is c.self.invariant.sound
    ]
