use Rattle.std.proofs.Common.{None, ◌∙◌, ap}
use Rattle.miniport.specs.inside.Slots.{Table, piece_at}
use Rattle.miniport.proofs.Recording.{keeps_untouched, on_some, view_set}
use Rattle.miniport.proofs.table.TagTable.take_untouched.Goals as goal

pub returns-in-Some-clause-after : goal.returns-in-Some-clause-after
returns-in-Some-clause-after c = on_some _ _ c.taken.result c.in-Some.field-0.now
    (c.taken.ensures.piece ∙ ap (λ (t : Table). piece_at t.slots c.args.tag) c.self.view_is ∙ c.in-Some.ensures.0)
    (view_set c.self.inside.keeps_bytes c.self.inside.slots.items c.self.inside.accepted c.self.inside.failures c.self.inside.labels.items _ c.self.view_is c.self.invariant.2 c.taken.new.slots.items c.args.tag None c.taken.ensures.after
    (keeps_untouched c.args.self.now.slots c.args.tag None c.in-Some.field-0.now c.in-Some.ensures.0 c.in-Some.ensures.1))
