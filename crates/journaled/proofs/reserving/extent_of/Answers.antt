use Rattle.std.proofs.Common.{◌≡◌, Some, sym, ◌∙◌, rules}
use Rattle.journaled.proofs.Within.{lies_on_disk}
use Rattle.journaled.proofs.reserving.extent_of.Goals as goal

pub returns-in-Some-clause-within : goal.returns-in-Some-clause-within
returns-in-Some-clause-within c =
    let is : c.admits.result ≡ Some (c.in-Some.field-0-0, c.in-Some.extent) = search rules in
    lies_on_disk c.args.stack.now c.args.event.now (c.in-Some.field-0-0, c.in-Some.extent) c.requires (sym c.admits.ensures ∙ is)
