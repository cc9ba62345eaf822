use Rattle.script.proofs.Common.{◌==◌, ◌∙◌, ap, position}
use Rattle.script.proofs.Cuts.{cut_before, cut_behind, not_cut}
use Rattle.script.proofs.orders.cuts.cut.Goals as goal

pub returns-in_err-at : goal.returns-in_err-at
returns-in_err-at c =
    not_cut c.args.byte c.args.text.now c.from_residual.result c.from_residual.ensures
    (c.in_err-at.ensures ∙ ap (position (λ b. b == c.args.byte)) c.as_bytes.ensures.value)

pub range-requires-clause-end_boundary : goal.range-requires-clause-end_boundary
range-requires-clause-end_boundary c =
    cut_before c.args.byte c.args.text.now c.in_ok-at.at c.requires
    (c.in_ok-at.ensures ∙ ap (position (λ b. b == c.args.byte)) c.as_bytes.ensures.value)

pub range_from-requires : goal.range_from-requires
range_from-requires c =
    λ some. cut_behind c.args.byte c.args.text.now c.in_ok-at.at c.utf8.text c.requires
    (c.in_ok-at.ensures ∙ ap (position (λ b. b == c.args.byte)) c.as_bytes.ensures.value)
