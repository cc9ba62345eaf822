use Rattle.std.proofs.Common.{◌≡◌, rules, None, refl, sym, ◌∙◌}
use Rattle.sector_journal.proofs.Booked.{disarms, disarms_none, still_booked}
use Rattle.sector_journal.proofs.Kept.{disarmed_kept}
use Rattle.sector_journal.proofs.journal.Journal.disarm.Goals as goal

pub invariant_of-self : goal.invariant_of-self
invariant_of-self g c = record {
  kept = disarmed_kept _ _ _ _ _ _ _ _ c.args.tag c.self.invariant.kept c.clear.ensures.after;
  numbers = c.self.invariant.numbers;
  promised = c.self.invariant.promised;
  entered = c.self.invariant.entered;
  booked = c.self.invariant.booked;
}

pub invariant_of-self-2 : goal.invariant_of-self-2
invariant_of-self-2 g c = record {
  kept = disarmed_kept _ _ _ _ _ _ _ _ c.args.tag c.self.invariant.kept c.clear.ensures.after;
  numbers = c.self.invariant.numbers;
  promised = c.self.invariant.promised;
  entered = c.self.invariant.entered;
  booked = still_booked (g.M.Medium.view c.self.inside.medium).sector_size _ c.self.inside.reservations.items _ c.self.inside.pool _ c.self.invariant.booked refl refl c.put.ensures.booked;
}

pub returns-in_default : goal.returns-in_default
returns-in_default g c =
    let none : c.clear.result ≡ None = search rules in
    disarms_none _ _ c.args.tag _ c.self.view_is (sym c.clear.ensures.piece ∙ none) c.clear.ensures.after

pub returns : goal.returns
returns g c =
    disarms _ _ c.args.tag _ _ c.in-Some.armed c.self.view_is (sym c.clear.ensures.piece ∙ c.in-Some.is) c.clear.ensures.after c.self.invariant.booked c.put.ensures.no_less c.put.ensures.back
