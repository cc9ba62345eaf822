use Rattle.part_tests.proofs.Known.{keeps_same, known_on, known_resumes}
use Rattle.part_tests.proofs.session.Session.resume.Goals as goal

pub invariant_of-self : goal.invariant_of-self
invariant_of-self g c =
    let s = c.self.inside in
    let asked = g.D.Shown.view c.take_done.new.self in
    record {
      form = c.self.invariant.form;
      locations = c.self.invariant.locations;
      known = known_resumes asked (g.D.Shown.view c.resume.new.self) s.partitions.now s.next s.paused s.removed c.resume.ensures.resumes
          (known_on (g.D.Shown.view s.device) asked s.partitions.now s.next s.paused s.removed
          (keeps_same (g.D.Shown.view s.device) asked c.in-None.ensures.hands_up.same) c.self.invariant.known);
    }
