use Rattle.hold_filter.proofs.Common.{subst, sym, ◌∙◌, ap, PausesAll, FilterView, TableView, books_of, view_of, IsInHand}
use Rattle.hold_filter.proofs.Turning.{pauses, hand_paused}
use Rattle.hold_filter.proofs.layer.FilterHold.pause.Goals as goal

pub invariant_of-self : goal.invariant_of-self
invariant_of-self g c = record {
  buffers = c.self.invariant.buffers;
  in_hand = subst (λ (b : TableView). IsInHand g.D.Shown.stack_size (g.D.Shown.view c.self.inside.parts.device) b)
      (sym c.pause.ensures)
      (hand_paused _ _ _ c.self.invariant.in_hand
      (c.self.invariant.in_hand.kept.removing ∙ ap (λ (f : FilterView). f.shown.state.removing) c.self.view_is
      ∙ c.requires.not_removing));
}

pub returns : goal.returns
returns g c =
    let going = ap (λ (f : FilterView). f.shown.state.paused) c.self.view_is ∙ c.requires.not_paused in
    let staying = ap (λ (f : FilterView). f.shown.state.removing) c.self.view_is ∙ c.requires.not_removing in
    rw (← c.self.view_is) (record {
      pauses = subst (λ (b : TableView). PausesAll
          (view_of (g.D.Shown.view c.self.inside.parts.device) (books_of c.self.inside.parts.table))
          (view_of (g.D.Shown.view c.self.inside.parts.device) b)) (sym c.pause.ensures)
          (pauses _ _ _ c.self.invariant.in_hand going staying);
    })
