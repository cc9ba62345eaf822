use Rattle.std.proofs.Common.{◌∙◌, ap, filter}
use Rattle.judging.specs.Cutting.{is_no_digit}
use Rattle.judging.proofs.cutting.without_digits.Goals as goal

pub returns : goal.returns
returns c = c.drop_digits.ensures ∙ ap (filter is_no_digit) (c.in_ok-left.ensures.items ∙ c.as_bytes.ensures.value ∙ c.in_ok-said.ensures.ok)
