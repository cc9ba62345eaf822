use Rattle.std.proofs.Common.{◌≡◌, sym, ◌∙◌, arith, length}
use Rattle.history_judge.specs.declared.cells.Cells.{Cells}
use Rattle.history_judge.proofs.Visiting.{one_there, one_new_at, not_at}
use Rattle.history_judge.proofs.cells.Cells.at.Goals as goal

pub returns-in-Some : goal.returns-in-Some
returns-in-Some c = λ seen h. one_there c.args.basis.now.start.any c.args.basis.now.start.bytes seen c.args.place c.args.self.now c.in-Some.at h (sym c.found.ensures ∙ c.in-Some.is)

pub returns : goal.returns
returns c = λ seen h.
    let new : Cells = record { index = c.insert.new.self; cells = c.push.new.self; places = c.push-2.new.self } in
    let last : c.len-at.result ≡ length c.args.self.now.cells.items = grind (arith, c.len-at.ensures) in
    one_new_at c.args.basis.now.start.any c.args.basis.now.start.bytes seen c.args.place c.args.self.now new c.in_ok-new.field-0 c.len-at.result last h (sym c.found.ensures ∙ c.in_default.is) c.in_ok-insert.ensures.updates.1
    (λ p i differ. c.in_ok-insert.ensures.updates.2 (p, i) (not_at (c.args.place.partition, c.args.place.sector) (p, i) differ)) c.in_ok-push.ensures.items c.in_ok-push-2.ensures.items c.in_ok-new.ensures
