use Rattle.std.proofs.Common.{◌∙◌, ◌-◌, ◌*◌, ap}
use Rattle.disk.proofs.Chunked.{part_read}
use Rattle.disk.proofs.chunks.Chunks.read_part.Goals as goal

pub returns : goal.returns
returns c =
    let disk = c.args.self.now in
    part_read disk.sector_size disk.sectors disk.by_number c.args.part c.places-start.result.0 _ c.get_bytes.new.bytes c.requires.in_one c.requires.within
    (c.places-start.ensures.start ∙ ap (λ extent. (c.args.part.first - extent.first) * disk.sector_size) c.extent_of.ensures.extent) c.requires.long c.get_bytes.ensures
