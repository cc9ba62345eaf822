use Rattle.std.proofs.Common.{arith, ap, ◌∙◌}
use Rattle.miniport.specs.inside.Slots.{Table, with_reset_at}
use Rattle.miniport.proofs.Resetting.{labels_so_far, failures_so_far, one_more}
use Rattle.miniport.proofs.table.TagTable.reset.Goals as goal

pub reset_at-requires-clause-place : goal.reset_at-requires-clause-place
reset_at-requires-clause-place c = rw c.loop-tag.invariant
    (omega (arith, labels_so_far c.args.self.now c.loop-tag.tag (omega arith)))

pub reset_at-requires-clause-countable : goal.reset_at-requires-clause-countable
reset_at-requires-clause-countable c = rw c.loop-tag.invariant
    (omega (arith, failures_so_far c.args.self.now c.loop-tag.tag (omega arith)))

pub loop-tag-preserved : goal.loop-tag-preserved
loop-tag-preserved c = c.reset_at.ensures ∙ ap (λ (t : Table). with_reset_at c.loop-tag.tag t) c.loop-tag.invariant
    ∙ one_more c.args.self.now c.loop-tag.tag (omega arith)
