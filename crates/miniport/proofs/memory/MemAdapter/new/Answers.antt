use Rattle.std.proofs.Common.{ap, ◌∙◌}
use Rattle.miniport.specs.inside.Slots.{Table}
use Rattle.miniport.specs.Memory.{view_of}
use Rattle.miniport.proofs.Starting.{new_kept}
use Rattle.miniport.proofs.Showing.{shown_new}
use Rattle.miniport.proofs.memory.MemAdapter.new.Goals as goal

pub invariant_of-result : goal.invariant_of-result
invariant_of-result g c = new_kept (g.M.Medium.view c.args.medium) c.args.max_transfer c.args.depth c.in_ok-table.table c.in_ok-table.ensures
    c.requires.sector_size c.requires.some c.requires.few c.requires.transfer c.requires.short c.requires.deep c.requires.shallow c.requires.unfailed

pub returns : goal.returns
returns g c =
    ap (λ (t : Table). view_of (g.M.Medium.view c.args.medium) c.args.max_transfer c.args.write_protected t) c.in_ok-table.ensures
    ∙ shown_new (g.M.Medium.view c.args.medium) c.args.max_transfer c.args.depth c.args.write_protected
