use Rattle.std.proofs.Common.{subst}
use Rattle.std.specs.Prelude.{OnOk, option_copied}
use Rattle.register.specs.Values.{code}
use Rattle.history.specs.Waits.{fill}
use Rattle.history_fitting.specs.Services.{rules_of}
use Rattle.history_judge.specs.inside.Cells.{IsCell, read_end, with_last}
use Rattle.history_judge.proofs.cell.Cell.answer_read.Goals as goal

pub returns : goal.returns
returns c = λ any start waits h.
    let rules = rules_of c.args.service.now in
    let answered = c.args.answered in
    let brings = option_copied c.success_bytes-bytes.result in
    let filled = c.in_ok-fill.ensures any start waits h in
    subst (λ b. OnOk c.add_if.result (IsCell any start (with_last (fill code rules answered.number b waits) (read_end answered.number answered.status b)) c.add_if.new.self)) c.success_bytes-bytes.ensures
    (subst (λ w. OnOk c.add_if.result (IsCell any start (with_last (fill code rules answered.number brings waits) w) c.add_if.new.self)) c.read_end.ensures (c.add_if.ensures any start _ filled))
