use Rattle.std.proofs.Common.{◌<◌, subst, refl, inl, sym, rules}
use Rattle.ntstatus.specs.declared.NtStatus.TheVariants.{NotFound}
use Rattle.saddlemug.specs.Over.{IsArmedStatus, OverView}
use Rattle.saddlemug.proofs.Standing.{same_at, tells_at}
use Rattle.saddlemug.proofs.over.Over.armed.Goals.{in-Ok, in-Err}
use Rattle.saddlemug.proofs.over.Over.armed.Goals as goal

pub returns-in_default-clause-why : goal.returns-in_default-clause-why
returns-in_default-clause-why c = subst (λ (v : OverView). IsArmedStatus v c.args.tag NotFound) c.self.view_is (inl (refl, c.in_default.ensures))

pub returns-clause-tells : goal.returns-clause-tells
returns-clause-tells c =
    let below : c.args.tag < 256 = search rules in
    elim c.match-stand.branch [
      | in-Ok w ↦ rw w.result-is (rw w.self-inside-is (tells_at c.self.inside.stack c.self.inside.places.items c.args.self.now c.self.view_is c.args.tag below c.self.invariant.many
          c.index_mut-place.result.now c.index_mut-place.ensures.value c.in-Some.piece c.in-Some.srb.now w.told_armed.result c.as_slice.result.now w.in-Ok.bytes c.stand.new.place
          c.in-Some.ensures w.told_armed.ensures.told w.told_armed.ensures.address c.as_slice.ensures w.in-Ok.ensures.stands))
      | in-Err w ↦ rw w.result-is (rw w.self-inside-is (same_at c.self.inside.stack c.self.inside.places.items c.args.self.now c.self.view_is c.args.tag below c.self.invariant.many
          c.index_mut-place.result.now c.index_mut-place.ensures.value c.stand.new.place w.in-Err.ensures.same))
    ]
