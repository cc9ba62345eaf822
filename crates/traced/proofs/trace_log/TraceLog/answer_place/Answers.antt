use Rattle.std.proofs.Common.{ap, ◌∙◌}
use Rattle.traced.proofs.Finding.{all_within, not_called, is_found}
use Rattle.traced.proofs.trace_log.TraceLog.answer_place.Goals as goal

pub returns-in_err-client : goal.returns-in_err-client
returns-in_err-client g c = rw c.from_residual.ensures (not_called _ _ _ c.shows_rows.ensures c.in_err-client.ensures)

pub last_answer-requires : goal.last_answer-requires
last_answer-requires g c = all_within _ _ _ _ (c.as_slice.ensures.value ∙ ap (λ p. p.entries) c.self.view_is) c.row.ensures

pub returns : goal.returns
returns g c =
    is_found _ _ _ _ _ _ _ c.shows_rows.ensures c.in_ok-client.ensures.0 (c.as_slice.ensures.value ∙ ap (λ p. p.entries) c.self.view_is) c.row.ensures c.last_answer.ensures
