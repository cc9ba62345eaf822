use Rattle.std.proofs.Common.{sym, ◌∙◌, ap}
use Rattle.std.specs.Prelude.{option_copied}
use Rattle.std.specs.Global.{Vec}
use Rattle.history_judge.specs.declared.waits.Marked.{Marked}
use Rattle.history_fitting.specs.Services.{rules_of}
use Rattle.history_judge.proofs.Celling.{fill_begins, fill_goes, fill_ends}
use Rattle.history_judge.proofs.cell.Cell.fill.Goals as goal

pub loop-marked-init : goal.loop-marked-init
loop-marked-init c = λ any start waits h.
    fill_begins any start (rules_of c.args.service.now) c.args.number (option_copied c.args.bytes) waits c.args.self.now c.replace-waits.new.dest c.into_iter-marked-iterator.result.rest.items h
    (ap (λ (ms : Vec Marked). ms.items) c.replace-waits.ensures.after ∙ c.new.ensures.items)
    (c.into_iter-marked-iterator.ensures.into_iter_gives.0 ∙ ap (λ (ms : Vec Marked). ms.items) c.replace-waits.ensures.value)

pub loop-marked-preserved : goal.loop-marked-preserved
loop-marked-preserved c = λ any start waits h.
    fill_goes any start (rules_of c.args.service.now) c.args.number (option_copied c.args.bytes) waits c.loop-marked.marked-iterator.rest.items c.next.new.self.rest.items c.in-Some.marked c.in_ok-left.left c.loop-marked.self c.add_if.new.self
    (c.loop-marked.invariant any start waits h) c.in-Some.ensures.steps.0 c.in_ok-left.ensures (λ ws is. c.in_ok-add_if.ensures any start ws is)

pub returns : goal.returns
returns c = λ any start waits h.
    fill_ends any start (rules_of c.args.service.now) c.args.number (option_copied c.args.bytes) waits c.loop-marked.marked-iterator.rest.items c.loop-marked.self (c.loop-marked.invariant any start waits h)
    (sym c.loop-marked.marked-iterator.rest.ok.0 ∙ c.in-None.ensures.steps.0)
