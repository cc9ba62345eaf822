use Rattle.hold_filter.proofs.Common.{◌≡◌, subst, sym, opening_over, TableView, view_of, IsInHand}
use Rattle.hold_filter.proofs.Opening.{hand_opening, opening_is}
use Rattle.hold_filter.proofs.filter.Filter.new.Goals as goal

pub invariant_of-result : goal.invariant_of-result
invariant_of-result g c = record {
  buffers = c.requires.buffers;
  in_hand = subst (λ (b : TableView). IsInHand g.D.Shown.stack_size (g.D.Shown.view c.args.device) b)
      (sym c.new-table.ensures)
      (hand_opening g.D.Shown.stack_size (g.D.Shown.view c.args.device) c.args.window c.requires.locations
      c.requires.some c.requires.device c.shows_order.ensures.order c.most_fits.ensures.fits);
}

pub returns-clause-opening : goal.returns-clause-opening
returns-clause-opening g c =
    subst (λ (b : TableView). view_of (g.D.Shown.view c.args.device) b ≡ opening_over c.args.window
    (g.D.Shown.view c.args.device)) (sym c.new-table.ensures)
    (opening_is g.D.Shown.stack_size (g.D.Shown.view c.args.device) c.args.window c.requires.locations
    c.requires.some
    c.requires.device c.shows_order.ensures.order c.most_fits.ensures.fits)
