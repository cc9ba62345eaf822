use Rattle.std.proofs.Common.{rules, subst, ◌≡◌, ◌<◌, ℕ, length, take, None, Option, slice_index_or}
use Rattle.std.proofs.lemmas.List.Elements.{All-more}
use Rattle.std.proofs.lemmas.List.{take_all}
use Rattle.movers.specs.declared.flight.Flown.{Flown}
use Rattle.movers.specs.Flight.{AllBeside}
use Rattle.movers.proofs.flight.all_beside.Goals as goal

pub loop-at-preserved : goal.loop-at-preserved
loop-at-preserved c =
    let inside : c.loop-at.at < length c.args.tags.now = search rules in
    record { beside = λ k d. All-more (AllBeside c.args.flown.now) c.args.tags.now c.loop-at.at None inside c.loop-at.invariant.beside (search rules) k d }

pub returns : goal.returns
returns c is =
    let whole : take c.loop-at.at c.args.tags.now ≡ c.args.tags.now = take_all c.loop-at.at c.args.tags.now (search rules) in
    subst (λ xs. (k : ℕ) → (d : Option Flown) → k < length xs → AllBeside c.args.flown.now (slice_index_or xs k d)) whole c.loop-at.invariant.beside
