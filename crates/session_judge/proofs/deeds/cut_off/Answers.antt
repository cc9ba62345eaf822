use Rattle.std.proofs.Common.{rules, ◌≡◌, ◌<◌, get_or, length}
use Rattle.judge.specs.Views.{rules_of}
use Rattle.session_judge.proofs.Adding.{cut_by}
use Rattle.session_judge.proofs.deeds.cut_off.Goals as goal

pub loop-piece-preserved : goal.loop-piece-preserved
loop-piece-preserved c =
    let low : c.loop-piece.piece-index < length c.args.machine.now.pieces = search rules in
    let item : c.piece-item.result ≡ get_or c.args.machine.now.pieces c.loop-piece.piece-index c.piece-item.result = search rules in
    cut_by (rules_of c.args.rules.now) c.args.machine.now c.args.machine.now.pieces c.loop-piece.piece-index c.piece-item.result c.in_ok-work.work c.loop-piece.deeds.items c.add_fault_of.new.deeds.items low item
    c.in_ok-work.ensures c.loop-piece.invariant c.in_ok-add_fault_of.ensures
