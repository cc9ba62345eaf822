use Rattle.std.proofs.Common.{sym, ap, subst, ◌∙◌, ◌+◌}
use Rattle.arrayvec.specs.ArrayVec.{ArrayVec}
use Rattle.sector.specs.declared.Extent.{Extent}
use Rattle.mbr.proofs.Entries.{HasFound, all_four, unused_more, used_more}
use Rattle.mbr.proofs.reading.partitions.Goals as goal
use Rattle.mbr.proofs.reading.partitions.Goals.{then-kind-ne0, else-kind-ne0}

pub loop-n-preserved : goal.loop-n-preserved
loop-n-preserved c =
    let table = c.args.sector.now in
    let items = λ (v : ArrayVec Extent). v.items in
    let Found = HasFound table (c.loop-n.n + 1) in
    let before = c.loop-n.partitions.items in
    let read = c.entry-kind in
    let within = c.loop-n-test.true in
    elim c.if-kind-ne0.branch [
      | then-kind-ne0 w ↦ subst Found (sym (ap items w.partitions-is ∙ w.push.ensures.items))
          (used_more table c.loop-n.n read.result before within read.ensures w.if-kind-ne0.true c.loop-n.invariant)
      | else-kind-ne0 w ↦ subst Found (sym (ap items w.partitions-is))
          (unused_more table c.loop-n.n read.result before within read.ensures w.if-kind-ne0.false c.loop-n.invariant)
    ]

pub returns : goal.returns
returns c = all_four c.args.sector.now c.loop-n.n c.loop-n.partitions.items c.loop-n-test.false c.loop-n.auto.n-end c.loop-n.invariant
