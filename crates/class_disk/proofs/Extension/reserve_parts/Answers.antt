use Rattle.class_disk.proofs.Common.{ap, refl, sym, subst, DeviceView, near_after, near_same, Table, MakesNone}
use Rattle.class_disk.proofs.NewParts.{new_here}
use Rattle.class_disk.proofs.Making.{none_asked, all_back}
use Rattle.class_disk.proofs.Reserving.{on_err}
use Rattle.class_disk.proofs.Extension.reserve_parts.Goals as goal

pub returns-in_err-parts-clause-refused : goal.returns-in_err-parts-clause-refused
returns-in_err-parts-clause-refused g c = on_err _ (none_asked _ _)

pub free_parts-requires-clause-out : goal.free_parts-requires-clause-out
free_parts-requires-clause-out g c = (c.requires.in_order.0, c.add_parts-added.ensures.makes.out c.requires.in_order.0 c.requires.in_order.1)

pub free_parts-requires-clause-here : goal.free_parts-requires-clause-here
free_parts-requires-clause-here g c = new_here c.args.self.now.table.sizes c.args.request.now _ _ c.add_parts-added.ensures.parts

pub returns-in-Err-clause-refused : goal.returns-in-Err-clause-refused
returns-in-Err-clause-refused g c =
    subst (λ (t : Table). MakesNone (g.D.Shown.view c.args.self.now.device) c.args.self.now.table.owners.items (g.D.Shown.view c.free_parts.new.self.device) t.owners.items) (sym c.free_parts.ensures.table)
    (all_back _ _ _ _ _ c.args.slot _ c.add_parts-added.ensures.makes c.free_parts.ensures.same c.free_parts.ensures.out)

pub returns-in_err-parts-clause-near : goal.returns-in_err-parts-clause-near
returns-in_err-parts-clause-near g c = near_same (g.D.Shown.view c.args.self.now.device) (g.D.Shown.view c.args.self.now.device) c.args.request.now refl

pub returns-in-Err-clause-near : goal.returns-in-Err-clause-near
returns-in-Err-clause-near g c =
    near_after (g.D.Shown.view c.args.self.now.device) (g.D.Shown.view c.add_parts-added.new.self.device) (g.D.Shown.view c.free_parts.new.self.device) c.args.request.now
    (ap (λ (x : DeviceView). x.adapter) c.free_parts.ensures.same) c.add_parts-added.ensures.near
