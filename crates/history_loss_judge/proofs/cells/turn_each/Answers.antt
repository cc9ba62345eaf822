use Rattle.std.proofs.Common.{◌<◌, ◌∙◌, ap, arith, length, slice_set}
use Rattle.history_loss_sector.specs.Seen.{seen_after, shared_in, turned_sight}
use Rattle.history_loss_judge.proofs.Turning.{changed_next}
use Rattle.history_loss_judge.proofs.cells.turn_each.Goals as goal

pub loop-at-preserved : goal.loop-at-preserved
loop-at-preserved c =
    let low : c.loop-at.at < length c.args.cells.now.items = grind (arith, c.loop-at-test.true, c.len-at-end.ensures, c.args.cells.now.ok.0) in
    ap (slice_set c.loop-at.cells.items c.loop-at.at) (c.in_ok-turn.ensures ∙ ap (seen_after (shared_in c.args.shared.now) (turned_sight c.args.how)) c.index_mut.ensures.value)
    ∙ changed_next (seen_after (shared_in c.args.shared.now) (turned_sight c.args.how)) c.loop-at.at c.args.cells.now.items c.loop-at.cells.items c.index_mut.result.now low c.loop-at.invariant
