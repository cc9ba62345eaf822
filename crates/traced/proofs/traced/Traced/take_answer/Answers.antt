use Rattle.traced.proofs.Common.{subst, Contains, IfSome, as_answer, TracedView}
use Rattle.traced.specs.Entries.{labels_of}
use Rattle.traced.proofs.Booking.{sound_taken, stands_if}
use Rattle.traced.proofs.traced.Traced.take_answer.Goals as goal

pub invariant_of-self : goal.invariant_of-self
invariant_of-self g c = record {
  sound = sound_taken _ _ _ _ _ _ _ c.self.invariant.sound _ _ _ c.take_answer_of.ensures;
  tally = c.self.invariant.tally;
  clients = c.self.invariant.clients;
  same_sizes = c.self.invariant.same_sizes;
  sizes = c.self.invariant.sizes;
}

pub returns-clause-stands : goal.returns-clause-stands
returns-clause-stands g c =
    subst (λ (b : TracedView). IfSome c.take_answer_of.result (λ answer. Contains (labels_of b.entries) (as_answer answer))) c.self.view_is
    (stands_if _ _ _ _ _ _ _ c.self.invariant.sound _ _ _ c.take_answer_of.ensures)
