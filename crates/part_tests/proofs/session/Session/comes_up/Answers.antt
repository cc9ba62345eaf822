use Rattle.part_tests.proofs.Known.{keeps_hands, known_on}
use Rattle.part_tests.proofs.session.Session.comes_up.Goals as goal

pub invariant_of-self-2 : goal.invariant_of-self-2
invariant_of-self-2 g c =
    let s = c.self.inside in
    let up = g.D.Shown.view c.take_done.new.self in
    record {
      form = c.self.invariant.form;
      locations = c.self.invariant.locations;
      known = known_on (g.D.Shown.view s.device) (g.D.Shown.view c.free.new.self) s.partitions.now s.next s.paused s.removed
          (keeps_hands (g.D.Shown.view s.device) up (g.D.Shown.view c.free.new.self) g.D.Shown.takes_srb c.in-Some.climb c.in-Some.room.spot
          c.in-Some.ensures.hands_up c.free.ensures.frees) c.self.invariant.known;
    }
