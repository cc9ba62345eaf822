use Rattle.sector_journal.proofs.Common.{[], ◌∷◌, ◌++◌, refl, sym, ap, ◌∙◌, of_arming, MediumView}
use Rattle.sector_journal.proofs.Booked.{still_booked}
use Rattle.sector_journal.proofs.Kept.{entered_kept, refused_kept}
use Rattle.sector_journal.proofs.journal.Journal.act.Goals as goal

pub enter-requires-clause-ready : goal.enter-requires-clause-ready
enter-requires-clause-ready g c = (c.self.invariant.kept.ready c.args.tag c.in_ok-armed.armed c.in_ok-armed.ensures.was_there).can_enter.ready

pub invariant_of-self-in-Ok : goal.invariant_of-self-in-Ok
invariant_of-self-in-Ok g c = record {
  kept = entered_kept _ _ _ _ _ _ _ _ _ _ c.args.tag c.args.piece c.in_ok-armed.armed c.self.invariant.kept c.in_ok-armed.ensures c.in-Ok.entry _ _ c.in-Ok.ensures c.push_reserved.ensures.items c.push_reserved.ensures.capacity;
  numbers = c.self.invariant.numbers;
  promised = c.self.invariant.promised;
  entered = c.add.ensures ∙ ap (λ es. es ++ of_arming c.in_ok-armed.armed.number c.in-Ok.entry ∷ []) c.self.invariant.entered ∙ sym c.push_reserved.ensures.items;
  booked = still_booked (g.M.Medium.view c.self.inside.medium).sector_size _ c.self.inside.reservations.items _ c.self.inside.pool _ c.self.invariant.booked (ap (λ (v : MediumView). v.sector_size) c.in-Ok.ensures.after) refl (λ long. refl);
}

pub invariant_of-self-in-Err : goal.invariant_of-self-in-Err
invariant_of-self-in-Err g c = record {
  kept = refused_kept _ _ _ _ _ _ _ _ _ _ c.args.tag c.args.piece c.in_ok-armed.armed c.self.invariant.kept c.in_ok-armed.ensures c.in-Err.completion c.in-Err.ensures;
  numbers = c.self.invariant.numbers;
  promised = c.self.invariant.promised;
  entered = c.self.invariant.entered;
  booked = still_booked (g.M.Medium.view c.self.inside.medium).sector_size _ c.self.inside.reservations.items _ c.self.inside.pool _ c.self.invariant.booked (ap (λ (v : MediumView). v.sector_size) c.in-Err.ensures.after) refl (λ long. refl);
}

pub enter-requires-clause-names : goal.enter-requires-clause-names
enter-requires-clause-names g c = (c.self.invariant.kept.ready c.args.tag c.in_ok-armed.armed c.in_ok-armed.ensures.was_there).can_enter.names
