use Rattle.std.proofs.Common.{◌≡◌, ℕ, ◌+◌, ◌-◌, ◌*◌, map, ap, arith, ◌∙◌}
use Rattle.std.specs.List.{concat, range_with_len}
use Rattle.disk.specs.SparseDisk.{sector_of}
use Rattle.disk.proofs.Chunked.{read_more}
use Rattle.disk.proofs.chunks.Chunks.read.Goals as goal

pub loop-rest-preserved : goal.loop-rest-preserved
loop-rest-preserved c =
    let disk = c.args.self.now in
    let size = disk.sector_size in
    let extent = c.args.extent in
    let part = c.first_part.result.0 in
    let place = c.places-start in
    let before = c.loop-rest.rest.first - extent.first in
    let after : part.first ≡ extent.first + before = omega arith in
    record {
      begins = omega arith;
      ends = omega arith;
      done = read_more (sector_of disk) size extent.first before part.count (c.first_part.result.1.first - extent.first)
          place.result.0 place.result.1 c.loop-rest.buffer c.read_part.new.bytes (omega arith)
          (place.ensures.start ∙ ap (λ k. (k - extent.first) * size) c.first_part.ensures.starts)
          (place.ensures.end ∙ ap (λ k. (k - extent.first + part.count) * size) c.first_part.ensures.starts)
          (omega arith) (omega arith) c.loop-rest.invariant.done
          (c.read_part.ensures ∙ ap (λ (k : ℕ). concat (map (sector_of disk) (range_with_len k part.count))) after);
    }
