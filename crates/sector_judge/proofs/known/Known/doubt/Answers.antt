use Rattle.std.proofs.Common.{◌∙◌, ◌++◌, ap, map, List}
use Rattle.sector_judge.specs.declared.candidates.Older.{Older}
use Rattle.sector_judge.specs.inside.Lists.{older_value}
use Rattle.sector_judge.proofs.Changing.{doubted_shown}
use Rattle.sector_judge.proofs.known.Known.doubt.Goals as goal

pub returns : goal.returns
returns c =
    doubted_shown c.self.inside.any c.self.inside.firsts.items c.self.inside.current.items c.self.inside.older.items c.args.self.now c.self.view_is c.add_values.new.candidates.items c.clear.new.self.items
    (c.in_ok-add_values.ensures ∙ ap (λ (os : List Older). c.self.inside.current.items ++ map older_value os) c.deref.ensures.value) c.clear.ensures.items
