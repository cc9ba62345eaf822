use Rattle.std.proofs.Common.{◌≡◌, [], ap, arith, length}
use Rattle.history_loss_sector.specs.Seen.{shared_in}
use Rattle.history_loss_sector.proofs.Viewing.{known_is}
use Rattle.history_loss_sector.proofs.seen.known_of.Goals as goal

pub returns : goal.returns
returns c =
    let some : c.args.own.now ≡ [] → ⊥ = λ e. let none : length c.args.own.now ≡ 0 = ap length e in absurd (grind (arith, c.is_empty.ensures, c.if-is_empty.false, none)) in
    known_is c.args.all c.args.own.now (shared_in c.args.shared.now) some c.args.watched.now.seen c.in_ok-after.after.seen c.see_merged.new.watched.seen.start c.see_merged.new.watched.seen.sights c.so_far-2.result
    c.in_ok-after.ensures c.see_merged.ensures.start c.in_ok-see_merged.ensures.seen c.so_far-2.ensures
