use Rattle.std.proofs.Common.{refl}
use Rattle.disk.proofs.Chunked.{whole_written, written_inside, written_outside, wrote}
use Rattle.disk.proofs.chunks.Chunks.write_part.Goals as goal

pub invariant_of-self : goal.invariant_of-self
invariant_of-self c =
    let disk = c.args.self.now in
    let part = c.args.part in
    let start = c.places-start.result.0 in
    let w = wrote disk.sector_size disk.sectors part c.extent_of.result start c.args.bytes.now disk.by_number c.put_bytes.new.chunks disk.whole c.requires.within
    c.requires.in_one c.requires.there c.requires.long c.extent_of.ensures.extent c.places-start.ensures.start c.put_bytes.ensures in
    record { whole = whole_written disk.sector_size disk.sectors part start c.args.bytes.now disk.by_number c.put_bytes.new.chunks w }

pub returns : goal.returns
returns c =
    let disk = c.args.self.now in
    let part = c.args.part in
    let start = c.places-start.result.0 in
    let w = wrote disk.sector_size disk.sectors part c.extent_of.result start c.args.bytes.now disk.by_number c.put_bytes.new.chunks disk.whole c.requires.within
    c.requires.in_one c.requires.there c.requires.long c.extent_of.ensures.extent c.places-start.ensures.start c.put_bytes.ensures in
    record {
      sizes = record { sector_size = refl; sectors = refl };
      same_keys = c.put_bytes.ensures.same_keys;
      inside = written_inside disk.sector_size disk.sectors part start c.args.bytes.now disk.by_number c.put_bytes.new.chunks w;
      outside = written_outside disk.sector_size disk.sectors part start c.args.bytes.now disk.by_number c.put_bytes.new.chunks w;
    }
