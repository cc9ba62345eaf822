use Rattle.part_tests.proofs.Known.{keeps_labels, keeps_finishes, known_on}
use Rattle.part_tests.proofs.session.Session.finish.Goals as goal

pub invariant_of-self : goal.invariant_of-self
invariant_of-self g c =
    let s = c.self.inside in
    let taken = g.D.Shown.view c.take_label.new.self in
    record {
      form = c.self.invariant.form;
      locations = c.self.invariant.locations;
      known = known_on taken (g.D.Shown.view c.finish.new.self) s.partitions.now s.next s.paused s.removed
          (keeps_finishes taken (g.D.Shown.view c.finish.new.self) c.args.tag c.finish.result c.finish.ensures.finishes)
          (known_on (g.D.Shown.view s.device) taken s.partitions.now s.next s.paused s.removed
          (keeps_labels (g.D.Shown.view s.device) taken c.take_label.result c.take_label.ensures.takes) c.self.invariant.known);
    }
