use Rattle.std.proofs.Common.{arith, lit<, refl, ap, List, ℕ, length}
use Rattle.disk.proofs.Cutting.{length-first_chunks, starts_filled}
use Rattle.disk.proofs.vec_disk.VecDisk.starting_with.Goals as goal

pub returns-clause-starts : goal.returns-clause-starts
returns-clause-starts c = record {
  size_is = refl;
  count_is = length-first_chunks c.args.sector_size c.args.sectors _;
  bytes_are = starts_filled c.args.sector_size c.args.sectors c.extend_from_slice.new.self.len c.resize.new.self.items c.extend_from_slice.new.self.items c.in_ok-bytes.bytes.items c.args.first.now
      (omega (arith, c.in_ok-resize.ensures.len, c.resize.new.self.ok.0)) (ap (λ (l : List ℕ). length l) c.in_ok-bytes.ensures.items) c.requires.fits
      c.in_ok-extend_from_slice.ensures.items (omega (arith, c.in_ok-bytes.ensures.len, c.in_ok-extend_from_slice.ensures.len)) c.in_ok-resize.ensures.items;
  none_failed = c.new.ensures.none_failed;
}

pub returns-clause-reserved : goal.returns-clause-reserved
returns-clause-reserved c = λ extent within sector h. (
  record { first = 0; count = c.args.sectors },
  (0, lit< tt, refl),
  (omega arith, omega (arith, within, h.1, length-first_chunks c.args.sector_size c.args.sectors c.resize.new.self.items)),
)
