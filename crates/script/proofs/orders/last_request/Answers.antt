use Rattle.script.proofs.Asked.{no_request_found}
use Rattle.script.proofs.orders.last_request.Goals as goal

pub returns-in_err-last_number : goal.returns-in_err-last_number
returns-in_err-last_number c =
    no_request_found c.args.words c.is_at_end.result c.from_residual.result c.from_residual.ensures c.if-is_at_end.false c.is_at_end.ensures c.in_err-last_number.ensures
