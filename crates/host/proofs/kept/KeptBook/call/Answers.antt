use Rattle.std.proofs.Common.{refl, sym, ◌∙◌, subst}
use Rattle.book.specs.Book.{CallsAfter, book_of}
use Rattle.host.proofs.Common.{AreLooked, BookView, TracedView}
use Rattle.host.proofs.Standing.{step_leaves}
use Rattle.host.proofs.kept.KeptBook.call.Goals as goal

pub step-requires-clause-share : goal.step-requires-clause-share
step-requires-clause-share g c = rw c.requires.handle refl

pub invariant_of-self : goal.invariant_of-self
invariant_of-self g c =
    c.self.invariant ∙ sym (step_leaves c.laws_of_numbers.ensures.count g.N.TraceNaming.slots _ _ c.self.inside.book c.args.event c.step.result c.step.new.self c.requires.others c.step.ensures.stepped)

pub returns : goal.returns
returns g c =
    subst (λ (b : BookView). (marked : TracedView) × AreLooked g.N.TraceNaming.slots b.traced marked × CallsAfter c.args.share.now c.step.new.share.0 (book_of marked b.taken) c.args.event c.step.result c.step.new.self) c.self.view_is
    (c.step.ensures.stepped.marked, c.step.ensures.stepped.looks, c.step.ensures.stepped.serves)
