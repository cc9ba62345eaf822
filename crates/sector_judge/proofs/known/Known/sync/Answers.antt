use Rattle.std.proofs.Common.{◌∙◌, ap, List}
use Rattle.std.specs.List.{filter}
use Rattle.sector_judge.specs.declared.candidates.Older.{Older}
use Rattle.sector_judge.specs.inside.Lists.{stays}
use Rattle.sector_judge.proofs.Changing.{synced_shown}
use Rattle.sector_judge.proofs.known.Known.sync.Goals as goal

pub returns : goal.returns
returns c =
    synced_shown c.self.inside.any c.self.inside.firsts.items c.self.inside.current.items c.self.inside.older.items c.args.self.now c.self.view_is c.args.flush c.in_ok-self-inside.field-0.items
    (c.in_ok-self-inside.ensures ∙ ap (λ (os : List Older). filter (stays c.args.flush) os) c.deref.ensures.value)
