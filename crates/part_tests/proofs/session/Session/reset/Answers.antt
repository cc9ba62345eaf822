use Rattle.part_tests.proofs.Known.{keeps_labels, keeps_resets, known_on}
use Rattle.part_tests.proofs.session.Session.reset.Goals as goal

pub invariant_of-self-2 : goal.invariant_of-self-2
invariant_of-self-2 g c =
    let s = c.self.inside in
    let taken = g.D.Shown.view c.take_label.new.self in
    record {
      form = c.self.invariant.form;
      locations = c.self.invariant.locations;
      known = known_on taken (g.D.Shown.view c.reset.new.self) s.partitions.now s.next s.paused s.removed
          (keeps_resets taken (g.D.Shown.view c.reset.new.self) c.reset.ensures.resets)
          (known_on (g.D.Shown.view s.device) taken s.partitions.now s.next s.paused s.removed
          (keeps_labels (g.D.Shown.view s.device) taken c.take_label.result c.take_label.ensures.takes) c.self.invariant.known);
    }
