use Rattle.std.proofs.Common.{◌≡◌, length, sym, ap, subst, ◌∙◌, rules}
use Rattle.disk.specs.Medium.{MediumView, HasWholeSectors}
use Rattle.journaled.specs.Opening.{IsUnused}
use Rattle.journaled.specs.Shown.{StandsIn}
use Rattle.stack_tests.proofs.journals.journaled_on.Goals as goal

pub new-requires-2-clause-unused : goal.new-requires-2-clause-unused
new-requires-2-clause-unused g c = record {
  whole = subst (λ (m : MediumView). HasWholeSectors m) (sym c.in_ok-journal.ensures.medium_is) c.has_whole_sectors.ensures;
  no_entry = c.in_ok-journal.ensures.no_entry;
  none_open = c.in_ok-journal.ensures.none_open;
}

pub new-requires-2-clause-stands : goal.new-requires-2-clause-stands
new-requires-2-clause-stands g c =
    let many : length (g.M.Medium.view c.args.medium).sectors ≡ 4096 = search rules in
    let size : (g.M.Medium.view c.args.medium).sector_size ≡ 512 = search rules in
    record {
      apart = c.in_ok-stack.ensures.apart;
      sector_size = ap (λ (m : MediumView). m.sector_size) c.in_ok-journal.ensures.medium_is ∙ size ∙ sym c.in_ok-stack.ensures.sizes.0;
      sectors = ap (λ (m : MediumView). length m.sectors) c.in_ok-journal.ensures.medium_is ∙ many ∙ sym c.in_ok-stack.ensures.sizes.1;
    }

pub new-requires-2-clause-longest : goal.new-requires-2-clause-longest
new-requires-2-clause-longest g c = sym c.in_ok-stack.ensures.sizes.2
