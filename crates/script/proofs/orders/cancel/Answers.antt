use Rattle.std.proofs.Common.{◌∷◌, codes, drop, refl}
use Rattle.script.specs.Script.{Asks, Number, request_of}
use Rattle.script.proofs.Asked.{cancel_is, finds_none, first_spells}
use Rattle.script.proofs.orders.cancel.Goals as goal

pub returns-in_err-number : goal.returns-in_err-number
returns-in_err-number c =
    finds_none (Asks (codes "cancel" ∷ c.args.words)) c.from_residual.result c.from_residual.ensures
    (λ order h. let r = cancel_is c.args.words order h in
    c.in_err-number.ensures.value r.0 (first_spells c.args.words (drop 1 c.args.words) (Number r.0) (request_of r.1) refl r.2).0)
