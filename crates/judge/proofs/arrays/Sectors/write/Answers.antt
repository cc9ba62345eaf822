use Rattle.std.proofs.Common.{arith, sym}
use Rattle.judge.proofs.Sparse.{has_room, length_is, none_written, one_further, one_more}
use Rattle.judge.proofs.arrays.Sectors.write.Goals as goal

pub put-requires : goal.put-requires
put-requires c =
    has_room c.args.self.now c.args.first c.loop-sector.yielded c.loop-sector.self c.loop-sector.number c.loop-sector.invariant.place c.loop-sector.invariant.written

pub loop-sector-init : goal.loop-sector-init
loop-sector-init c = record {
  place = let long = length_is c.self.inside.blank.items c.self.inside.count c.self.inside.written c.args.self.now c.self.view_is in omega (arith, long, c.min-number.ensures);
  written = sym (none_written c.args.self.now c.args.first);
}

pub loop-sector-preserved : goal.loop-sector-preserved
loop-sector-preserved c = record {
  place = one_further c.args.self.now c.args.first c.loop-sector.yielded _ c.loop-sector.number _ c.loop-sector.invariant.place c.in_ok-number.ensures.next;
  written = one_more c.args.self.now c.args.first c.loop-sector.yielded c.loop-sector.self _ _ c.loop-sector.number c.loop-sector.invariant.place c.loop-sector.invariant.written c.in_ok-number.ensures.put;
}
