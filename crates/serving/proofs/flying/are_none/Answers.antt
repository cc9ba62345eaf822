use Rattle.std.proofs.Common.{rules, subst, ◌≡◌, ◌<◌, ℕ, List, None, Option, length, take}
use Rattle.std.specs.Prelude.{All, IsNone}
use Rattle.std.proofs.lemmas.List.Elements.{All-more}
use Rattle.std.proofs.lemmas.List.{take_all}
use Rattle.serving.proofs.flying.are_none.Goals as goal

pub loop-at-preserved : goal.loop-at-preserved
loop-at-preserved c =
    let inside : c.loop-at.at < length c.args.places.now = search rules in
    record { none = λ k d. All-more IsNone c.args.places.now c.loop-at.at None inside c.loop-at.invariant.none (search rules) k d }

pub returns : goal.returns
returns c is =
    let whole : take c.loop-at.at c.args.places.now ≡ c.args.places.now = take_all c.loop-at.at c.args.places.now (search rules) in
    subst (λ (xs : List (Option ℕ)). All IsNone xs) whole c.loop-at.invariant.none
