use Rattle.std.proofs.Common.{◌∙◌, ap, arith, refl}
use Rattle.miniport.specs.inside.Slots.{Table}
use Rattle.miniport.proofs.Recording.{act_tells, one_more_kept, one_more_tellable}
use Rattle.miniport.proofs.table.TagTable.put_moved.Goals as goal

pub invariant_of-self : goal.invariant_of-self
invariant_of-self c =
    let tells = act_tells c.self.inside.keeps_bytes c.args.self.now _ c.args.tag _ c.recorded_act-label.result _ _ (c.self-2.view_is ∙ c.place.ensures) c.requires.below c.requires.acted refl
    (ap (λ (t : Table). t.keeps_bytes) c.self.view_is) c.recorded_act-label.ensures.tells in (
      c.self-2.invariant.0,
      omega (arith, c.push_back_reserved.ensures.capacity, c.self-2.invariant.1),
      one_more_tellable c.self-2.inside.slots.items c.self-2.inside.labels.items c.push_back_reserved.new.self.items _ c.push_back_reserved.ensures.items tells.tellable c.self-2.invariant.2,
      one_more_kept c.self-2.inside.keeps_bytes c.self-2.inside.labels.items c.push_back_reserved.new.self.items _ c.push_back_reserved.ensures.items tells.kept c.self-2.invariant.3,
    )
