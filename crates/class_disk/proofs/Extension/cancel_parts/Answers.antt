use Rattle.class_disk.proofs.Common.{refl, sym, ◌∙◌, subst, arith, books_of, IsPartAt}
use Rattle.class_disk.proofs.Parting.{cancels_none, part_at, cancels_more, cancels_all}
use Rattle.class_disk.proofs.Extension.cancel_parts.Goals as goal

pub loop-part-init : goal.loop-part-init
loop-part-init g c = record { table = refl; so_far = cancels_none _ _ _ }

pub cancel_part-requires : goal.cancel_part-requires
cancel_part-requires g c =
    let p = part_at (g.D.Shown.view c.args.self.now.device) (books_of c.args.self.now.table) c.args.slot c.loop-part.part c.part_count-part-end.result c.loop-part-test.true c.requires c.part_count-part-end.ensures in
    (p.0, subst (λ t. IsPartAt (books_of t) c.args.slot c.loop-part.part p.0) (sym c.loop-part.invariant.table) p.1)

pub loop-part-preserved : goal.loop-part-preserved
loop-part-preserved g c =
    let p = part_at (g.D.Shown.view c.args.self.now.device) (books_of c.args.self.now.table) c.args.slot c.loop-part.part c.part_count-part-end.result c.loop-part-test.true c.requires c.part_count-part-end.ensures in
    let now = subst (λ t. IsPartAt (books_of t) c.args.slot c.loop-part.part p.0) (sym c.loop-part.invariant.table) p.1 in
    record {
      table = c.cancel_part.ensures.table ∙ c.loop-part.invariant.table;
      so_far = cancels_more _ _ _ c.loop-part.part _ _ p.0 p.1 c.loop-part.invariant.so_far (c.cancel_part.ensures.cancels p.0 now);
    }

pub returns-clause-cancels : goal.returns-clause-cancels
returns-clause-cancels g c = cancels_all _ (books_of c.args.self.now.table) c.args.slot c.loop-part.part c.part_count-part-end.result _ (omega arith) c.part_count-part-end.ensures c.loop-part.invariant.so_far
