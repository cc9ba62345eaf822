use Rattle.std.proofs.Common.{◌≡◌, ◌*◌, ◌/◌, length, arith, rules, sym}
use Rattle.sector.specs.declared.Extent.{Extent}
use Rattle.disk.proofs.SparseShown.{reserved_only, started}
use Rattle.disk.proofs.Overwriting.{there_by_keys}
use Rattle.disk.proofs.Reserving.{made_only}
use Rattle.disk.proofs.sparse_disk.SparseDisk.starting_with.Goals as goal

pub returns-clause-starts : goal.returns-clause-starts
returns-clause-starts c =
    let size = c.args.sector_size in
    let bytes = c.args.first.now in
    let long : length bytes ≡ length bytes / size * size = omega (arith, c.requires.whole, c.requires.some) in
    started size c.args.sectors (length bytes / size) bytes c.new-chunks.result c.reserve.new.self c.write.new.self c.new.result
    c.new-chunks.ensures.size c.new-chunks.ensures.count c.new-chunks.ensures.none c.reserve.ensures.makes c.write.ensures long (search rules) c.new.ensures.none_failed

pub returns-clause-only : goal.returns-clause-only
returns-clause-only c =
    let extent : Extent = record { first = 0; count = length c.args.first.now / c.args.sector_size } in
    reserved_only (record { chunks = c.write.new.self; bad = c.new.result }) extent
    (λ number there. made_only extent c.new-chunks.result c.reserve.new.self c.new-chunks.ensures.none c.reserve.ensures.only number
    (there_by_keys c.write.new.self.by_number c.reserve.new.self.by_number (sym c.write.ensures.same_keys) number there))
