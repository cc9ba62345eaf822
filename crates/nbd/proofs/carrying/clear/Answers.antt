use Rattle.std.proofs.Common.{arith}
use Rattle.nbd.proofs.Clearing.{continued, failed_piece, piece_within}
use Rattle.nbd.proofs.carrying.clear.Goals as goal

pub overflow_add-offset : goal.overflow_add-offset
overflow_add-offset g c = omega (arith, c.requires.in_bounds.inside, c.requires.small)

pub loop-done-preserved : goal.loop-done-preserved
loop-done-preserved g c =
    let i = c.loop-done.invariant in
    let old = g.A.Array.content c.args.array.now in
    let mid = g.A.Array.content c.loop-done.array in
    let p = piece_within old mid c.args.offset c.loop-done.done c.min-piece.result c.args.count c.requires.in_bounds c.requires.block i.whole c.loop-done-test.true c.min-piece.ensures i.cleared in
    record {
      within = omega arith;
      whole = p.1;
      cleared = continued old mid _ c.args.offset c.loop-done.done c.min-piece.result (omega (arith, c.requires.in_bounds.inside)) i.cleared c.in_default.ensures.cleared;
    }

pub returns-in-Err-clause-clears : goal.returns-in-Err-clause-clears
returns-in-Err-clause-clears g c =
    failed_piece g.A.Array.fails (g.A.Array.content c.args.array.now) (g.A.Array.content c.loop-done.array) _ c.args.offset c.loop-done.done c.min-piece.result c.args.count c.in-Err.error
    c.in-Err.ensures.cleared c.requires.in_bounds.inside c.loop-done-test.true (omega arith) c.loop-done.invariant.cleared c.in-Err.ensures.outside
