use Rattle.std.proofs.Common.{◌≤◌, length, rules, tests}
use Rattle.book.proofs.Keeping.{all_noted}
use Rattle.book.proofs.noting.catch_up.Goals as goal

pub returns : goal.returns
returns g c =
    let most : length c.args.traced.now.entries ≤ c.loop-place.place = search (rules, tests) in
    all_noted c.args.traced.now.entries c.args.from c.loop-place.place c.args.tags.now c.loop-place.tags c.loop-place.invariant.noted most
