use Rattle.std.proofs.Common.{◌∙◌, ◌++◌, ◌∷◌, [], ap}
use Rattle.srb.specs.declared.DeviceLabel.TheVariants.{Start}
use Rattle.miniport.specs.declared.recorded.Recorded.TheVariants.{Told}
use Rattle.miniport.proofs.Recording.{view_accepted}
use Rattle.miniport.proofs.table.TagTable.accept.Goals as goal

pub returns : goal.returns
returns c = view_accepted c.self.inside.keeps_bytes c.self.inside.slots.items c.self.inside.accepted c.self.inside.failures c.self.inside.labels.items _ c.self.view_is c.self.invariant.2 c.push_back_reserved.new.self.items c.args.tag c.args.piece c.args.srb
    (c.push_back_reserved.ensures.items ∙ ap (λ block. c.self.inside.labels.items ++ Told (Start c.args.piece c.args.tag block) ∷ []) c.copied-block.ensures)
    c.requires.free
