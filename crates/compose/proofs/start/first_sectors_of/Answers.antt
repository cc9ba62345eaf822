use Rattle.compose.proofs.Common.{◌≡◌, ◌<◌, ◌≤◌, length, ◌∙◌, arith, length-set, slice_get_within}
use Rattle.compose.proofs.FirstSectors.{first_more}
use Rattle.compose.proofs.start.first_sectors_of.Goals as goal

pub loop-partition-preserved : goal.loop-partition-preserved
loop-partition-preserved c =
    let few : length c.args.partitions.now ≤ 4 = c.requires.few in
    let at : c.loop-partition.partition < length c.args.partitions.now = c.loop-partition-test.true in
    let long : length c.loop-partition.firsts ≡ 4 = c.loop-partition.invariant.0 in
    (length-set c.loop-partition.firsts _ _ ∙ long, first_more c.loop-partition.firsts _ c.loop-partition.partition _ (omega (arith, few, at, long)) c.loop-partition.invariant.1)

pub returns : goal.returns
returns c p extent there =
    let within : p < length c.args.partitions.now = slice_get_within c.args.partitions.now p extent there in
    let done = c.loop-partition-test.false in
    c.loop-partition.invariant.1 p (omega (arith, within, done)) extent there
