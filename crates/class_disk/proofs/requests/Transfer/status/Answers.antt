use Rattle.class_disk.proofs.Common.{sym, ◌∙◌, ap, lowest_status}
use Rattle.class_disk.proofs.PartFolds.{status_at_end, status_found, status_passed}
use Rattle.class_disk.proofs.requests.Transfer.status.Goals as goal

pub loop-part-init : goal.loop-part-init
loop-part-init c = ap lowest_status (sym c.deref-part-items.ensures.value)

pub returns-in-Some : goal.returns-in-Some
returns-in-Some c = sym (c.loop-part.invariant ∙ status_found _ _ _ _ c.loop-part-test.true c.part-item.is (sym c.failure.ensures ∙ c.in-Some.is))

pub loop-part-preserved : goal.loop-part-preserved
loop-part-preserved c = c.loop-part.invariant ∙ status_passed _ _ _ c.loop-part-test.true c.part-item.is (sym c.failure.ensures ∙ c.in_default.is)

pub returns : goal.returns
returns c = sym (c.loop-part.invariant ∙ status_at_end _ _ c.loop-part-test.false)
