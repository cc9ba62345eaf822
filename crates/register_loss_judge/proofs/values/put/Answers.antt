use Rattle.std.proofs.Common.{◌∙◌, ◌++◌, List, ap, map}
use Rattle.register_loss_judge.specs.declared.values.Older.{Older}
use Rattle.register_loss_judge.specs.inside.States.{outdated}
use Rattle.register_loss_judge.proofs.Changing.{put_held}
use Rattle.register_loss_judge.proofs.values.put.Goals as goal

pub returns : goal.returns
returns c =
    put_held c.args.next c.args.value.now c.args.values.now.current.items c.in_ok-now.now.items c.args.values.now.older.items c.add_outdated.new.older.items c.in_ok-now.ensures
    (c.in_ok-add_outdated.ensures ∙ ap (λ (os : List Older). os ++ map (outdated c.args.next) c.as_slice-2.result.now) (c.in_ok-older.ensures ∙ c.as_slice.ensures.value)
    ∙ ap (λ vs. c.args.values.now.older.items ++ map (outdated c.args.next) vs) c.as_slice-2.ensures.value)
