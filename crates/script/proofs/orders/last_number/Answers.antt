use Rattle.script.proofs.Common.{[], ◌∷◌, drop, refl, AllZip, Number, Spells}
use Rattle.script.proofs.Asked.{finds_at_end, finds_none, first_spells, spells_more}
use Rattle.script.proofs.orders.last_number.Goals as goal

pub returns-in_err-number : goal.returns-in_err-number
returns-in_err-number c =
    finds_none (λ n. AllZip Spells c.args.words (Number n ∷ [])) c.from_residual.result c.from_residual.ensures
    (λ n h. c.in_err-number.ensures.value n (first_spells c.args.words (drop 1 c.args.words) (Number n) [] refl h).0)

pub returns : goal.returns
returns c =
    finds_at_end (λ n. AllZip Spells c.args.words (Number n ∷ [])) c.in_ok-number.number c.number.new.self c.is_at_end.result c.then_some.result c.then_some.ensures c.is_at_end.ensures
    (λ h. spells_more c.args.words c.number.new.self (Number c.in_ok-number.number) [] c.number.ensures.rest c.in_ok-number.ensures.value h)
    (λ n h. (first_spells c.args.words c.number.new.self (Number n) [] c.number.ensures.rest h).1)
