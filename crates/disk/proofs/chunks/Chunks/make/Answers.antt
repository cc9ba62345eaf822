use Rattle.std.proofs.Common.{◌*◌, ap, subst}
use Rattle.disk.specs.inside.Sparse.{AreWhole, PutsZeros}
use Rattle.disk.proofs.Chunked.{on_each, whole_unchanged, whole_with_zeros}
use Rattle.disk.proofs.chunks.Chunks.make.Goals as goal

pub invariant_of-self : goal.invariant_of-self
invariant_of-self c =
    let disk = c.args.self.now in
    let long = ap (λ extent. extent.count * disk.sector_size) c.extent_of.ensures.extent in
    record {
      whole = on_each c.put_zeros.result _ _ (AreWhole disk.sector_size disk.sectors c.put_zeros.new.chunks) c.put_zeros.ensures.made c.put_zeros.ensures.err
          (λ puts. whole_with_zeros disk.sector_size disk.sectors c.args.number disk.by_number c.put_zeros.new.chunks disk.whole
          (subst (λ n. PutsZeros n c.args.number disk.by_number c.put_zeros.new.chunks) long puts))
          (λ same. whole_unchanged disk.sector_size disk.sectors disk.by_number c.put_zeros.new.chunks disk.whole same);
    }
