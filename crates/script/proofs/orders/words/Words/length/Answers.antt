use Rattle.script.specs.Script.{FirstSpells, Length}
use Rattle.script.proofs.Asked.{finds_none, length_is_number}
use Rattle.script.proofs.orders.words.Words.length.Goals as goal

pub returns-in_err-length-clause-value : goal.returns-in_err-length-clause-value
returns-in_err-length-clause-value c =
    finds_none (λ n. FirstSpells c.args.self.now (Length n)) c.from_residual.result c.from_residual.ensures
    (λ n h. c.in_err-length.ensures.value n (length_is_number c.args.self.now n h))
