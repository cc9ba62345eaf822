use Rattle.std.proofs.Common.{rules, subst, ◌≡◌, ◌<◌, List, None, Option, length, take}
use Rattle.std.specs.Prelude.{All}
use Rattle.std.proofs.lemmas.List.Elements.{All-more}
use Rattle.std.proofs.lemmas.List.{take_all}
use Rattle.serving.specs.declared.dues.Due.{Due}
use Rattle.serving.specs.inside.Dues.{IsFree}
use Rattle.serving.proofs.Slots.{none_placed}
use Rattle.serving.proofs.dues.are_free.Goals as goal

pub loop-at-preserved : goal.loop-at-preserved
loop-at-preserved c =
    let inside : c.loop-at.at < length c.args.slots.now = search rules in
    record { free = λ k d. All-more IsFree c.args.slots.now c.loop-at.at None inside c.loop-at.invariant.free (search rules) k d }

pub returns : goal.returns
returns c is =
    let whole : take c.loop-at.at c.args.slots.now ≡ c.args.slots.now = take_all c.loop-at.at c.args.slots.now (search rules) in
    none_placed c.args.slots.now (subst (λ (xs : List (Option Due)). All IsFree xs) whole c.loop-at.invariant.free)
