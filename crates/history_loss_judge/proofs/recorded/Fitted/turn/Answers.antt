use Rattle.std.proofs.Common.{refl, subst}
use Rattle.history_loss_sector.specs.Seen.{shared_in, turned_sight}
use Rattle.history_loss_judge.specs.inside.Cells.{HasCells, turned_by}
use Rattle.history_loss_judge.proofs.Whole.{whole_turned}
use Rattle.history_loss_judge.proofs.recorded.Fitted.turn.Goals as goal

pub returns-clause-whole : goal.returns-clause-whole
returns-clause-whole c =
    let f = c.args.self.now in
    whole_turned f _ c.args.how c.args.line c.requires.whole refl c.owing_after-self.ensures c.with-self.ensures c.new.ensures.calls c.new.ensures.owed c.new.ensures.none c.new-2.ensures.shared c.new-2.ensures.none
    (subst (λ xs. HasCells f.basis.start (turned_by (shared_in xs) (turned_sight c.args.how) c.requires.whole.kept) c.turn_all.new.self) c.as_slice-shared.ensures.value
    (c.in_ok-turn_all.ensures f.basis.start c.requires.whole.kept c.requires.whole.cells))
