-- One more part is made, and its room is out beside the others.
use Rattle.class_disk.proofs.Common.{◌≤◌, ◌==◌, refl, sym, ◌∙◌, ap, subst, near_same, Table, AreNewParts, MakesParts}
use Rattle.std.specs.Prelude.{vec_capacity}
use Rattle.class_disk.proofs.NewParts.{none_made, one_made, asked_now, kind_now, new_here}
use Rattle.class_disk.proofs.Making.{no_parts, one_more, no_more}
use Rattle.class_disk.proofs.NearParts.{near_more}
use Rattle.class_disk.proofs.Extension.add_parts.Goals as goal

pub loop-k-init : goal.loop-k-init
loop-k-init g c = record {
  table = refl;
  unless_write = λ other. refl;
  near = near_same (g.D.Shown.view c.args.self.now.device) (g.D.Shown.view c.args.self.now.device) c.args.request.now refl;
  count = c.part_count-count.ensures;
  parts = subst (AreNewParts c.args.self.now.table.sizes c.args.request.now 0) (sym c.requires.none) (none_made c.args.self.now.table.sizes c.args.request.now);
  places = subst (λ n. n ≤ vec_capacity c.args.parts.now) (sym c.part_count-count.ensures) c.requires.places;
  makes = subst (λ ps. MakesParts (g.D.Shown.view c.args.self.now.device) c.args.self.now.table.owners.items c.args.slot 0 ps (g.D.Shown.view c.args.self.now.device) c.args.self.now.table.owners.items)
      (sym c.requires.none) (no_parts (g.D.Shown.view c.args.self.now.device) c.args.self.now.table.owners.items c.args.slot);
}

pub returns-in_err-part-clause-makes : goal.returns-in_err-part-clause-makes
returns-in_err-part-clause-makes g c =
    no_more _ _ _ _ _ _ c.args.slot c.loop-k.parts.items c.requires.in_order.0 c.requires.in_order.1
    (new_here c.args.self.now.table.sizes c.args.request.now _ c.loop-k.parts.items c.loop-k.invariant.parts) c.loop-k.invariant.makes c.in_err-part.ensures.refused

pub loop-k-preserved : goal.loop-k-preserved
loop-k-preserved g c = record {
  table = c.reserve_part.ensures.table ∙ ap (λ (t : Table). record t { owners = c.reserve_part.new.self.table.owners }) c.loop-k.invariant.table;
  unless_write = λ other.
      c.reserve_part.ensures.unless_write
      (λ is. other (kind_now c.loop-k.self.table.sizes c.args.request.now _ c.loop-k.k c.part_request-below.ensures ∙ is))
      ∙ c.loop-k.invariant.unless_write other;
  near =
      near_more (g.D.Shown.view c.args.self.now.device) (g.D.Shown.view c.loop-k.self.device) (g.D.Shown.view c.reserve_part.new.self.device)
      c.loop-k.self.table.sizes.max_transfer c.args.request.now _ c.loop-k.k c.part_request-below.ensures
      c.loop-k.invariant.makes.stays.reserves c.loop-k.invariant.near c.reserve_part.ensures.near;
  count = c.loop-k.invariant.count;
  parts =
      one_made c.args.self.now.table.sizes c.args.request.now c.loop-k.k
      c.push_reserved.new.self.items c.loop-k.parts.items c.in_ok-part.part c.push_reserved.ensures.items c.loop-k.invariant.parts
      (asked_now c.loop-k.self.table.sizes c.args.self.now.table.sizes c.args.request.now
      c.part_request-below.result c.loop-k.k c.in_ok-part.part
      (ap (λ (t : Table). t.sizes) c.loop-k.invariant.table) c.part_request-below.ensures _ (ap (λ n. n == 1) c.loop-k.invariant.count) c.in_ok-part.ensures.part);
  places = subst (λ n. c.part_count-count.result ≤ n) (sym c.push_reserved.ensures.capacity) c.loop-k.invariant.places;
  makes =
      one_more _ _ _ _ _ _ c.args.slot c.loop-k.k c.push_reserved.new.self.items c.loop-k.parts.items c.in_ok-part.part c.requires.in_order.0 c.requires.in_order.1
      (new_here c.args.self.now.table.sizes c.args.request.now _ c.loop-k.parts.items c.loop-k.invariant.parts) c.push_reserved.ensures.items
      (sym c.loop-k.invariant.parts.long) c.loop-k.invariant.makes c.in_ok-part.ensures.makes;
}

pub returns-in_err-part-clause-near : goal.returns-in_err-part-clause-near
returns-in_err-part-clause-near g c =
    near_more (g.D.Shown.view c.args.self.now.device) (g.D.Shown.view c.loop-k.self.device) (g.D.Shown.view c.reserve_part.new.self.device)
    c.loop-k.self.table.sizes.max_transfer c.args.request.now _ c.loop-k.k c.part_request-below.ensures
    c.loop-k.invariant.makes.stays.reserves c.loop-k.invariant.near c.reserve_part.ensures.near
