use Rattle.std.proofs.Common.{◌≡◌, ap, sym, ◌∙◌}
use Rattle.label_text.specs.inside.Reading.{line_at, parted}
use Rattle.label_text.proofs.Understood.{none_spelled, only_one, read_spells}
use Rattle.label_text.proofs.reading.read_line.Goals as goal

pub returns-in-Some-clause-spelled : goal.returns-in-Some-clause-spelled
returns-in-Some-clause-spelled c =
    let told : c.in_ok-line.field-0 ≡ line_at (parted 32 c.args.text.now) = c.in_ok-line.ensures ∙ ap line_at c.new-words.ensures in
    read_spells c.args.text.now c.in-Some.line (sym told ∙ c.in-Some.is)

pub returns-in-Some-clause-only : goal.returns-in-Some-clause-only
returns-in-Some-clause-only c =
    let told : c.in_ok-line.field-0 ≡ line_at (parted 32 c.args.text.now) = c.in_ok-line.ensures ∙ ap line_at c.new-words.ensures in
    λ other. only_one c.args.text.now c.in-Some.line other (sym told ∙ c.in-Some.is)

pub returns-in-None-clause-fault : goal.returns-in-None-clause-fault
returns-in-None-clause-fault c =
    let told : c.in_ok-line.field-0 ≡ line_at (parted 32 c.args.text.now) = c.in_ok-line.ensures ∙ ap line_at c.new-words.ensures in
    none_spelled c.args.text.now (sym told ∙ c.in-None.is)

pub returns-in-Some-clause-again : goal.returns-in-Some-clause-again
returns-in-Some-clause-again c =
    let told : c.in_ok-line.field-0 ≡ line_at (parted 32 c.args.text.now) = c.in_ok-line.ensures ∙ ap line_at c.new-words.ensures in
    λ line is. sym (only_one c.args.text.now c.in-Some.line line (sym told ∙ c.in-Some.is) is)

pub returns-in-None-clause-again : goal.returns-in-None-clause-again
returns-in-None-clause-again c =
    let told : c.in_ok-line.field-0 ≡ line_at (parted 32 c.args.text.now) = c.in_ok-line.ensures ∙ ap line_at c.new-words.ensures in
    λ line is. absurd (none_spelled c.args.text.now (sym told ∙ c.in-None.is) line is)
