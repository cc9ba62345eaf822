use Rattle.std.proofs.Common.{◌∙◌, ap}
use Rattle.srb.specs.Bare.{in_memory}
use Rattle.miniport.specs.inside.Recorded.{told}
use Rattle.miniport.proofs.Recording.{first_kept, view_taken}
use Rattle.miniport.proofs.table.TagTable.take_label.Goals as goal

pub returns : goal.returns
returns c = view_taken c.self.inside.keeps_bytes c.self.inside.slots.items c.self.inside.accepted c.self.inside.failures c.self.inside.labels.items _ c.self.view_is c.in_ok-label.label c.pop_front.new.self.items c.tell.result c.in_ok-label.ensures.items
    (c.tell.ensures c.self.inside.keeps_bytes (first_kept c.self.inside.keeps_bytes c.self.inside.labels.items c.in_ok-label.label c.pop_front.new.self.items c.in_ok-label.ensures.items c.self.invariant.3)
    ∙ ap (λ slots. in_memory c.self.inside.keeps_bytes (told slots c.in_ok-label.label)) c.as_slice.ensures.value)
