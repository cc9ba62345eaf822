use Rattle.std.proofs.Common.{◌∙◌, List, ap}
use Rattle.std.specs.List.{filter}
use Rattle.register_loss_judge.specs.declared.values.Older.{Older}
use Rattle.register_loss_judge.specs.inside.States.{stays}
use Rattle.register_loss_judge.proofs.Changing.{synced_held}
use Rattle.register_loss_judge.proofs.values.synced.Goals as goal

pub returns : goal.returns
returns c =
    synced_held c.args.flush c.args.values.now.current.items c.in_ok-now.now.items c.args.values.now.older.items c.in_ok-older.older.items (c.in_ok-now.ensures ∙ c.as_slice.ensures.value)
    (c.in_ok-older.ensures ∙ ap (λ (os : List Older). filter (stays c.args.flush) os) c.as_slice-2.ensures.value)
