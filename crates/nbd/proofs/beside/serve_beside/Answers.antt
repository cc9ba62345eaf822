use Rattle.std.proofs.Common.{◌≡◌, false, sym, ◌∙◌}
use Rattle.std.specs.Prelude.{is_err}
use Rattle.nbd.proofs.Besides.{wrote}
use Rattle.nbd.proofs.Desking.{ends_here, ends_unended, ends_unflushed, ends_untold, reads_more, since_none, tells_on}
use Rattle.nbd.proofs.beside.serve_beside.Goals as goal

pub loop-init : goal.loop-init
loop-init g c = since_none g.D.Desk.remaining g.D.Desk.Since _ _

pub loop-preserved-in-Read : goal.loop-preserved-in-Read
loop-preserved-in-Read g c = reads_more g.D.Desk.remaining g.D.Desk.Since _ _ _ _ _ _ c.loop.invariant c.in-Read.ensures

pub returns-then-is_err : goal.returns-then-is_err
returns-then-is_err g c = ends_untold g.D.Desk.remaining g.D.Desk.Since _ _ _ _ _ _ _ _ _ _ _ c.loop.invariant c.in-Answered.ensures c.tell.ensures.keeps

pub loop-preserved-else-is_err : goal.loop-preserved-else-is_err
loop-preserved-else-is_err g c =
    let passed : is_err c.tell.result ≡ false = sym c.is_err.ensures.value ∙ c.if-is_err.false in
    tells_on g.D.Desk.remaining g.D.Desk.Since _ _ _ _ _ _ _ _ _ _ _ c.loop.invariant c.in-Answered.ensures (wrote _ _ passed c.tell.ensures.told) c.tell.ensures.unread c.tell.ensures.keeps

pub returns-then-is_err-2 : goal.returns-then-is_err-2
returns-then-is_err-2 g c = ends_unflushed g.D.Desk.remaining g.D.Desk.Since _ _ _ _ _ _ _ c.loop.invariant c.in-Idle.ensures

pub returns-then-is_err-3 : goal.returns-then-is_err-3
returns-then-is_err-3 g c = ends_unended g.D.Desk.remaining g.D.Desk.Since _ _ _ _ _ _ _ _ c.loop.invariant c.in-Ended.ensures

pub returns-in-Ended : goal.returns-in-Ended
returns-in-Ended g c = ends_here g.D.Desk.remaining g.D.Desk.Since _ _ _ _ _ _ _ _ c.loop.invariant c.in-Ended.ensures c.flush-in-Ended.ensures.bytes
