use Rattle.script.proofs.Common.{[], ◌≡◌, refl, AllZip, Spells}
use Rattle.script.proofs.Asked.{finds_at_end}
use Rattle.script.proofs.orders.alone.Goals as goal

pub returns : goal.returns
returns c =
    finds_at_end (λ found. (found ≡ c.args.order) × AllZip Spells c.args.words []) c.args.order c.args.words c.is_at_end.result c.then_some.result c.then_some.ensures c.is_at_end.ensures
    (λ h. (refl, h)) (λ found h. h.1)
