use Rattle.std.proofs.Common.{rules}
use Rattle.label_text.proofs.Filling.{all_filled, none_filled, one_filled}
use Rattle.label_text.proofs.decoding.fill.Goals as goal

pub loop-at-init : goal.loop-at-init
loop-at-init c = none_filled c.args.digits.now c.args.bytes.now c.requires

pub loop-at-preserved : goal.loop-at-preserved
loop-at-preserved c =
    one_filled c.args.digits.now c.loop-at.bytes c.loop-at.at 0 c.value-high.result c.value-low.result c.loop-at.all (search rules) c.value-high.ensures c.value-low.ensures c.loop-at.invariant

pub returns : goal.returns
returns c = all_filled c.args.digits.now c.loop-at.bytes c.loop-at.at c.loop-at.all (search rules) c.loop-at.invariant
