use Rattle.std.proofs.Common.{◌≡◌, false, sym, ◌∙◌, subst}
use Rattle.std.specs.Prelude.{option_copied}
use Rattle.std.specs.List.{list_any}
use Rattle.history_loss_sector.specs.Seen.{is_for}
use Rattle.history_loss_sector.specs.inside.Entries.{own_in, IsLastAt}
use Rattle.history_loss_sector.proofs.Answering.{filled_none, put_in, taken_out}
use Rattle.history_loss_sector.proofs.filling.fill.Goals as goal

pub returns-in_default : goal.returns-in_default
returns-in_default c = λ rules size once.
    filled_none rules c.args.answered.number (option_copied c.args.answered.bytes) (own_in c.args.own.now.items)
    (subst (λ ms. list_any (is_for c.args.answered.number) (own_in ms) ≡ false) c.as_slice.ensures.value c.in_default.ensures)

pub returns-in_default-2 : goal.returns-in_default-2
returns-in_default-2 c = λ rules size once.
    taken_out rules c.args.answered.number (option_copied c.args.answered.bytes) c.args.own.now.items c.in-Some.at c.remove-line.result
    (subst (λ ms. IsLastAt c.args.answered.number ms c.in-Some.at) c.as_slice.ensures.value c.in-Some.ensures) c.remove-line.ensures.value
    c.remove-line.new.self.items c.remove-line.ensures.items (sym c.in_default-2.is ∙ c.in_ok-wait.ensures rules size) once

pub returns : goal.returns
returns c = λ rules size once.
    put_in rules c.args.answered.number (option_copied c.args.answered.bytes) c.args.own.now.items c.in-Some.at c.remove-line.result
    (subst (λ ms. IsLastAt c.args.answered.number ms c.in-Some.at) c.as_slice.ensures.value c.in-Some.ensures) c.remove-line.ensures.value
    c.remove-line.new.self.items c.insert.new.self.items c.remove-line.result.line c.in-Some-2.wait c.remove-line.ensures.items c.in_ok-insert.ensures.items (sym c.in-Some-2.is ∙ c.in_ok-wait.ensures rules size) once
