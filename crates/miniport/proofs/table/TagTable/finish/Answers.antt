use Rattle.std.proofs.Common.{◌∙◌, List, All, ap, arith, map, refl, subst, sym}
use Rattle.miniport.specs.declared.recorded.Recorded.{Recorded}
use Rattle.miniport.specs.inside.Recorded.{IsTellable, told_of}
use Rattle.miniport.proofs.Recording.{all_told, all_told_more, finished, kept_so_far, nothing_finished, one_more_kept}
use Rattle.miniport.proofs.table.TagTable.finish.Goals as goal

pub invariant_of-self : goal.invariant_of-self
invariant_of-self c = (
  omega (arith, c.taken.ensures.many, c.self.invariant.0),
  omega (arith, c.tell_all.ensures.room, c.self.invariant.1),
  subst (λ (labels : List Recorded). All (IsTellable c.taken.new.slots.items) labels)
      (sym (c.tell_all.ensures.labels ∙ ap (λ slots. map (told_of slots) c.self.inside.labels.items) c.as_slice.ensures.value))
      (all_told c.self.inside.slots.items c.taken.new.slots.items c.self.inside.labels.items),
  kept_so_far c.self.inside.slots.items c.self.inside.keeps_bytes c.self.inside.labels.items c.tell_all.new.labels.items
      (c.tell_all.ensures.labels ∙ ap (λ slots. map (told_of slots) c.self.inside.labels.items) c.as_slice.ensures.value) c.self.invariant.3,
)

pub returns-in_err-on_tag : goal.returns-in_err-on_tag
returns-in_err-on_tag c = nothing_finished c.self.inside.keeps_bytes c.self.inside.slots.items c.self.inside.accepted c.self.inside.failures c.self.inside.labels.items _ c.self.view_is c.taken.new.slots.items c.tell_all.new.labels.items c.args.tag c.from_residual.result c.from_residual.ensures
    (c.tell_all.ensures.labels ∙ ap (λ slots. map (told_of slots) c.self.inside.labels.items) c.as_slice.ensures.value)
    c.taken.ensures.after (sym c.in_err-on_tag.ensures.piece)

pub invariant_of-self-2 : goal.invariant_of-self-2
invariant_of-self-2 c = (
  omega (arith, c.taken.ensures.many, c.self.invariant.0),
  omega (arith, c.push_back_reserved.ensures.capacity, c.tell_all.ensures.room, c.self.invariant.1),
  all_told_more c.self.inside.slots.items c.taken.new.slots.items c.self.inside.labels.items c.tell_all.new.labels.items c.push_back_reserved.new.self.items _
      (c.tell_all.ensures.labels ∙ ap (λ slots. map (told_of slots) c.self.inside.labels.items) c.as_slice.ensures.value) c.push_back_reserved.ensures.items,
  one_more_kept c.self.inside.keeps_bytes c.tell_all.new.labels.items c.push_back_reserved.new.self.items _ c.push_back_reserved.ensures.items refl
      (kept_so_far c.self.inside.slots.items c.self.inside.keeps_bytes c.self.inside.labels.items c.tell_all.new.labels.items
      (c.tell_all.ensures.labels ∙ ap (λ slots. map (told_of slots) c.self.inside.labels.items) c.as_slice.ensures.value) c.self.invariant.3),
)

pub returns : goal.returns
returns c = finished c.self.inside.keeps_bytes c.self.inside.slots.items c.self.inside.accepted c.self.inside.failures c.self.inside.labels.items _ c.self.view_is c.taken.new.slots.items c.tell_all.new.labels.items c.push_back_reserved.new.self.items c.args.tag c.in_ok-on_tag.on_tag
    c.completion-completion.result c.class-class.result
    (c.tell_all.ensures.labels ∙ ap (λ slots. map (told_of slots) c.self.inside.labels.items) c.as_slice.ensures.value)
    c.taken.ensures.after (sym c.in_ok-on_tag.ensures.piece) c.push_back_reserved.ensures.items c.class-class.ensures c.completion-completion.ensures
