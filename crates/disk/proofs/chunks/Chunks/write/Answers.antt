use Rattle.std.proofs.Common.{◌-◌, ◌+◌, ◌*◌, ap, arith, ◌∙◌}
use Rattle.disk.proofs.Overwriting.{overwrites_more, there_by_keys}
use Rattle.disk.proofs.chunks.Chunks.write.Goals as goal

pub write_part-requires-clause-there : goal.write_part-requires-clause-there
write_part-requires-clause-there c =
    let part = c.first_part.result.0 in
    there_by_keys c.args.self.now.by_number c.loop-rest.self.by_number c.loop-rest.invariant.wrote.same_keys _
    (c.requires.there part.first (omega arith, omega arith))

pub loop-rest-preserved : goal.loop-rest-preserved
loop-rest-preserved c =
    let extent = c.args.extent in
    let part = c.first_part.result.0 in
    let size = c.loop-rest.self.sector_size in
    let place = c.places-start in
    let before = c.loop-rest.rest.first - extent.first in
    record {
      begins = omega arith;
      ends = omega arith;
      wrote = overwrites_more extent part before (c.first_part.result.1.first - extent.first) place.result.0 place.result.1
          c.args.bytes.now c.args.self.now c.loop-rest.self c.write_part.new.self c.loop-rest.invariant.wrote c.write_part.ensures
          (omega arith) (omega arith)
          (place.ensures.start ∙ ap (λ k. (k - extent.first) * size) c.first_part.ensures.starts)
          (place.ensures.end ∙ ap (λ k. (k - extent.first + part.count) * size) c.first_part.ensures.starts);
    }
