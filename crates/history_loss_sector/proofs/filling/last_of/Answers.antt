use Rattle.std.proofs.Common.{sym, ◌∙◌, arith}
use Rattle.history_loss_sector.proofs.Answering.{last_first, last_found, last_more, last_none}
use Rattle.history_loss_sector.proofs.filling.last_of.Goals as goal

pub loop-left-init : goal.loop-left-init
loop-left-init c = record { few = omega arith; none = last_first c.args.number c.args.own.now }

pub returns-then-is_for : goal.returns-then-is_for
returns-then-is_for c =
    last_found c.args.number c.args.own.now c.loop-left.left c.index-own-left.result c.loop-left-test.true c.loop-left.invariant.few c.loop-left.invariant.none (sym c.is_for.ensures ∙ c.if-is_for.true)

pub loop-left-preserved : goal.loop-left-preserved
loop-left-preserved c =
    let few = c.loop-left.invariant.few in
    record {
      few = omega arith;
      none = last_more c.args.number c.args.own.now c.loop-left.left c.index-own-left.result c.loop-left-test.true few c.loop-left.invariant.none (sym c.is_for.ensures ∙ c.if-is_for.false);
    }

pub returns : goal.returns
returns c = last_none c.args.number c.args.own.now c.loop-left.left c.loop-left-test.false c.loop-left.invariant.none
